use Rattle.cpp_direct.proofs.ForAnswers.{◌++◌, ◌∷◌, [], refl, ap, sym, ◌∙◌, table-begins, Open}
use Rattle.cpp_direct.proofs.direct.Direct.begin_table.Goals as goal

pub returns : goal.returns
returns g c =
    let fresh = c.requires.fresh in
    table-begins _ (record c.args.self.now { waiting = c.push.new.self; at = 4 }) (sym c.IS_WIDE.ensures ∙ c.if-not-IS_WIDE.false) c.requires.apart c.requires.other
    c.requires.starts c.requires.letter c.requires.kind refl fresh.no_text fresh.no_candidate
    (c.in_ok-push.ensures.items ∙ ap (λ l. l ++ Open.Derived ∷ []) fresh.none_open)
