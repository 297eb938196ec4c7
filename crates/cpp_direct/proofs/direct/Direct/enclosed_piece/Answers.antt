use Rattle.cpp_direct.proofs.ForAnswers.{source, source_text, false, symbol_by, name-unmarked, some-by, source-name-piece, source-opening, source-piece, piece-prints}
use Rattle.cpp_direct.proofs.direct.Direct.enclosed_piece.Goals as goal

pub returns : goal.returns
returns g c =
    some-by c.name.result c.name.ensures
    (λ r. (
      source false r.0,
      source_text r.0,
      source-name-piece (symbol_by g.G.Grammar.IS_WIDE g.G.Grammar.IS_BARE g.G.Grammar.IS_BRIEF c.args.s.now) c.args.self.now.at r.0 c.name.new.self.at r.1,
      piece-prints (source false r.0) (source_text r.0) (source-piece false r.0 r.2 (name-unmarked c.args.s.now c.args.self.now.at r.0 c.name.new.self.at r.1)) (source-opening false r.0),
      r.3,
    ))
