use Rattle.rust_short_way.proofs.end.Goals as goal

pub show-requires : goal.show-requires
show-requires g c = c.requires.is_before
