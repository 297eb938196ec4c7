use Rattle.sym_filter.proofs.Basics.{◌≡◌, ◌∙◌, ◌++◌, [], true, false, refl, sym, take, arith, append-nil, may_begin, is_begun, written, held_of, left_at_end}
use Rattle.sym_filter.proofs.EntryLemmas.{TakesEntries-first, TakesEntries-hold, TakesEntries-plain, none-left}
use Rattle.sym_filter.proofs.WordLemmas.{Takes-plain, Takes-first, Takes-hold, held_of-empty, no_items, has_items, past-none, held-open, front-open, front-begun, held-begun, held-none}
use Rattle.sym_filter.proofs.words.Words.take.Goals as goal
use Rattle.sym_filter.proofs.words.Words.take.Goals.{then-is_empty+then-self-eq0+else-self+else-front-gt0, else-is_empty, else-is_empty-via-then-is_empty+else-self-eq0, else-is_empty-via-else-is_empty}

pub returns-then-self-clause-takes : goal.returns-then-self-clause-takes
returns-then-self-clause-takes g c = ([], sym (append-nil c.args.out.now.items), c.pass.ensures.takes (g.D.Demangler.answer c.args.demangler.now))

pub returns-then-front-gt0-clause-takes : goal.returns-then-front-gt0-clause-takes
returns-then-front-gt0-clause-takes g c =
    let self = c.args.self.now in
    let front = c.plain_front-front.ensures in
    let nothing = held_of-empty self (no_items self.held.items _ self.held.ok.0 (sym c.is_empty.ensures ∙ c.if-is_empty.true)) c.if-self-eq0.true in
    ([], sym (append-nil c.args.out.now.items), Takes-plain (g.D.Demangler.answer c.args.demangler.now) self _ _ refl nothing nothing c.if-self.false c.if-self.false front.place refl refl front.plain)

pub returns-then-count-eq0-clause-takes : goal.returns-then-count-eq0-clause-takes
returns-then-count-eq0-clause-takes g c =
    let answers = g.D.Demangler.answer c.args.demangler.now in
    let self = c.args.self.now in
    let not_past : self.past ≡ false = elim c.if-is_empty.branch [
      | then-is_empty+then-self-eq0+else-self+else-front-gt0 w ↦ w.if-self.false
      | else-is_empty w ↦ elim w.else-is_empty.branch [
        | else-is_empty-via-then-is_empty+else-self-eq0 w' ↦ past-none self.letters self.held.items self.dots self.past self.place self.is_held (λ _ none. w'.if-self-eq0.false none)
        | else-is_empty-via-else-is_empty w' ↦ past-none self.letters self.held.items self.dots self.past self.place self.is_held (λ nothing _. has_items self.held.items _ self.held.ok.0 (sym c.is_empty.ensures ∙ w'.if-is_empty.false) nothing)
      ]
    ] in
    let ended = c.in_ok-ended.ensures in
    (written self.letters answers self.place self.held.items, ended.text, Takes-first answers self c.end_word.new.self c.args.text.now c.run_front-count.result c.in_ok-ended.ended.dots ended.letters c.requires.some c.if-count-eq0.true (c.run_front-count.ensures.stops (omega (arith, c.requires.some, c.if-count-eq0.true))) ended.dots ended.counts ended.ends.0 ended.ends.1 (ended.past ∙ not_past) ended.ends.2)

pub hold-requires-clause-begins : goal.hold-requires-clause-begins
hold-requires-clause-begins g c =
    let self = c.args.self.now in
    let begun : is_begun (held_of self ++ take c.run_front-count.result c.args.text.now) ≡ true = elim c.if-is_empty.branch [
      | then-is_empty+then-self-eq0+else-self+else-front-gt0 w ↦
          let nothing = held_of-empty self (no_items self.held.items _ self.held.ok.0 (sym c.is_empty.ensures ∙ w.if-is_empty.true)) w.if-self-eq0.true in
          front-begun (held_of self) c.args.text.now w.plain_front-front.result.length c.run_front-count.result nothing w.if-front-gt0.false c.requires.some (omega (arith, c.if-count-eq0.false)) w.plain_front-front.ensures.stops
      | else-is_empty w ↦ elim w.else-is_empty.branch [
        | else-is_empty-via-then-is_empty+else-self-eq0 w' ↦ held-begun (held_of self) (take c.run_front-count.result c.args.text.now) self.is_held.begins (λ none. w'.if-self-eq0.false (held-none self.held.items self.dots none).1)
        | else-is_empty-via-else-is_empty w' ↦ held-begun (held_of self) (take c.run_front-count.result c.args.text.now) self.is_held.begins (λ none. has_items self.held.items _ self.held.ok.0 (sym c.is_empty.ensures ∙ w'.if-is_empty.false) (held-none self.held.items self.dots none).0)
      ]
    ] in
    begun

pub hold-requires-clause-holds : goal.hold-requires-clause-holds
hold-requires-clause-holds g c =
    let self = c.args.self.now in
    let not_past : self.past ≡ false = elim c.if-is_empty.branch [
      | then-is_empty+then-self-eq0+else-self+else-front-gt0 w ↦ w.if-self.false
      | else-is_empty w ↦ elim w.else-is_empty.branch [
        | else-is_empty-via-then-is_empty+else-self-eq0 w' ↦ past-none self.letters self.held.items self.dots self.past self.place self.is_held (λ _ none. w'.if-self-eq0.false none)
        | else-is_empty-via-else-is_empty w' ↦ past-none self.letters self.held.items self.dots self.past self.place self.is_held (λ nothing _. has_items self.held.items _ self.held.ok.0 (sym c.is_empty.ensures ∙ w'.if-is_empty.false) nothing)
      ]
    ] in
    let begins : may_begin self.letters self.place ≡ true = elim c.if-is_empty.branch [
      | then-is_empty+then-self-eq0+else-self+else-front-gt0 w ↦ front-open self.letters self.place _ c.args.text.now w.plain_front-front.result.length w.if-front-gt0.false c.requires.some w.plain_front-front.ensures.open w.plain_front-front.ensures.place
      | else-is_empty w ↦ elim w.else-is_empty.branch [
        | else-is_empty-via-then-is_empty+else-self-eq0 w' ↦ held-open self.letters self.held.items self.dots self.past self.place _ self.is_held (λ _ none. w'.if-self-eq0.false none) refl
        | else-is_empty-via-else-is_empty w' ↦ held-open self.letters self.held.items self.dots self.past self.place _ self.is_held (λ nothing _. has_items self.held.items _ self.held.ok.0 (sym c.is_empty.ensures ∙ w'.if-is_empty.false) nothing) refl
      ]
    ] in
    (not_past, begins)

pub returns-clause-takes : goal.returns-clause-takes
returns-clause-takes g c =
    let self = c.args.self.now in
    let front = c.run_front-count.ensures in
    let not_past : self.past ≡ false = elim c.if-is_empty.branch [
      | then-is_empty+then-self-eq0+else-self+else-front-gt0 w ↦ w.if-self.false
      | else-is_empty w ↦ elim w.else-is_empty.branch [
        | else-is_empty-via-then-is_empty+else-self-eq0 w' ↦ past-none self.letters self.held.items self.dots self.past self.place self.is_held (λ _ none. w'.if-self-eq0.false none)
        | else-is_empty-via-else-is_empty w' ↦ past-none self.letters self.held.items self.dots self.past self.place self.is_held (λ nothing _. has_items self.held.items _ self.held.ok.0 (sym c.is_empty.ensures ∙ w'.if-is_empty.false) nothing)
      ]
    ] in
    let begins : may_begin self.letters self.place ≡ true = elim c.if-is_empty.branch [
      | then-is_empty+then-self-eq0+else-self+else-front-gt0 w ↦ front-open self.letters self.place _ c.args.text.now w.plain_front-front.result.length w.if-front-gt0.false c.requires.some w.plain_front-front.ensures.open w.plain_front-front.ensures.place
      | else-is_empty w ↦ elim w.else-is_empty.branch [
        | else-is_empty-via-then-is_empty+else-self-eq0 w' ↦ held-open self.letters self.held.items self.dots self.past self.place _ self.is_held (λ _ none. w'.if-self-eq0.false none) refl
        | else-is_empty-via-else-is_empty w' ↦ held-open self.letters self.held.items self.dots self.past self.place _ self.is_held (λ nothing _. has_items self.held.items _ self.held.ok.0 (sym c.is_empty.ensures ∙ w'.if-is_empty.false) nothing) refl
      ]
    ] in
    let begun : is_begun (held_of self ++ take c.run_front-count.result c.args.text.now) ≡ true = elim c.if-is_empty.branch [
      | then-is_empty+then-self-eq0+else-self+else-front-gt0 w ↦
          let nothing = held_of-empty self (no_items self.held.items _ self.held.ok.0 (sym c.is_empty.ensures ∙ w.if-is_empty.true)) w.if-self-eq0.true in
          front-begun (held_of self) c.args.text.now w.plain_front-front.result.length c.run_front-count.result nothing w.if-front-gt0.false c.requires.some (omega (arith, c.if-count-eq0.false)) w.plain_front-front.ensures.stops
      | else-is_empty w ↦ elim w.else-is_empty.branch [
        | else-is_empty-via-then-is_empty+else-self-eq0 w' ↦ held-begun (held_of self) (take c.run_front-count.result c.args.text.now) self.is_held.begins (λ none. w'.if-self-eq0.false (held-none self.held.items self.dots none).1)
        | else-is_empty-via-else-is_empty w' ↦ held-begun (held_of self) (take c.run_front-count.result c.args.text.now) self.is_held.begins (λ none. has_items self.held.items _ self.held.ok.0 (sym c.is_empty.ensures ∙ w'.if-is_empty.false) (held-none self.held.items self.dots none).0)
      ]
    ] in
    let held = c.in_ok-taken.ensures in
    Takes-hold (g.D.Demangler.answer c.args.demangler.now) self c.hold.new.self c.args.text.now c.args.out.now.items c.hold.new.out.items c.run_front-count.result c.in_ok-taken.taken _ held.letters refl front.within front.in_run begun not_past begins held.place held.same held.dots held.count held.held held.passes

pub returns-then-self-clause-entries : goal.returns-then-self-clause-entries
returns-then-self-clause-entries g c =
    none-left (g.D.Demangler.answer c.args.demangler.now) c.args.self.now c.pass.new.self (take c.pass.result.count c.args.text.now) c.args.out.now.items c.pass.result.left c.pass.ensures.entries.0 (c.pass.ensures.entries.1 (g.D.Demangler.answer c.args.demangler.now))

pub returns-then-front-gt0-clause-entries : goal.returns-then-front-gt0-clause-entries
returns-then-front-gt0-clause-entries g c =
    let self = c.args.self.now in
    let front = c.plain_front-front.ensures in
    let nothing = held_of-empty self (no_items self.held.items _ self.held.ok.0 (sym c.is_empty.ensures ∙ c.if-is_empty.true)) c.if-self-eq0.true in
    (omega arith, TakesEntries-plain (g.D.Demangler.answer c.args.demangler.now) self _ _ refl nothing nothing c.if-self.false c.if-self.false front.place front.plain)

pub returns-then-count-eq0-clause-entries : goal.returns-then-count-eq0-clause-entries
returns-then-count-eq0-clause-entries g c =
    let answers = g.D.Demangler.answer c.args.demangler.now in
    let self = c.args.self.now in
    let not_past : self.past ≡ false = elim c.if-is_empty.branch [
      | then-is_empty+then-self-eq0+else-self+else-front-gt0 w ↦ w.if-self.false
      | else-is_empty w ↦ elim w.else-is_empty.branch [
        | else-is_empty-via-then-is_empty+else-self-eq0 w' ↦ past-none self.letters self.held.items self.dots self.past self.place self.is_held (λ _ none. w'.if-self-eq0.false none)
        | else-is_empty-via-else-is_empty w' ↦ past-none self.letters self.held.items self.dots self.past self.place self.is_held (λ nothing _. has_items self.held.items _ self.held.ok.0 (sym c.is_empty.ensures ∙ w'.if-is_empty.false) nothing)
      ]
    ] in
    let ended = c.in_ok-ended.ensures in
    (ended.left.0, TakesEntries-first answers self c.end_word.new.self c.args.text.now c.run_front-count.result (left_at_end c.in_ok-ended.ended.left c.end_word.new.out.items) ended.letters c.requires.some c.if-count-eq0.true (c.run_front-count.ensures.stops (omega (arith, c.requires.some, c.if-count-eq0.true))) ended.ends.0 (ended.past ∙ not_past) ended.ends.2 ended.left.1)

pub returns-clause-entries : goal.returns-clause-entries
returns-clause-entries g c =
    let self = c.args.self.now in
    let front = c.run_front-count.ensures in
    let not_past : self.past ≡ false = elim c.if-is_empty.branch [
      | then-is_empty+then-self-eq0+else-self+else-front-gt0 w ↦ w.if-self.false
      | else-is_empty w ↦ elim w.else-is_empty.branch [
        | else-is_empty-via-then-is_empty+else-self-eq0 w' ↦ past-none self.letters self.held.items self.dots self.past self.place self.is_held (λ _ none. w'.if-self-eq0.false none)
        | else-is_empty-via-else-is_empty w' ↦ past-none self.letters self.held.items self.dots self.past self.place self.is_held (λ nothing _. has_items self.held.items _ self.held.ok.0 (sym c.is_empty.ensures ∙ w'.if-is_empty.false) nothing)
      ]
    ] in
    let begins : may_begin self.letters self.place ≡ true = elim c.if-is_empty.branch [
      | then-is_empty+then-self-eq0+else-self+else-front-gt0 w ↦ front-open self.letters self.place _ c.args.text.now w.plain_front-front.result.length w.if-front-gt0.false c.requires.some w.plain_front-front.ensures.open w.plain_front-front.ensures.place
      | else-is_empty w ↦ elim w.else-is_empty.branch [
        | else-is_empty-via-then-is_empty+else-self-eq0 w' ↦ held-open self.letters self.held.items self.dots self.past self.place _ self.is_held (λ _ none. w'.if-self-eq0.false none) refl
        | else-is_empty-via-else-is_empty w' ↦ held-open self.letters self.held.items self.dots self.past self.place _ self.is_held (λ nothing _. has_items self.held.items _ self.held.ok.0 (sym c.is_empty.ensures ∙ w'.if-is_empty.false) nothing) refl
      ]
    ] in
    let begun : is_begun (held_of self ++ take c.run_front-count.result c.args.text.now) ≡ true = elim c.if-is_empty.branch [
      | then-is_empty+then-self-eq0+else-self+else-front-gt0 w ↦
          let nothing = held_of-empty self (no_items self.held.items _ self.held.ok.0 (sym c.is_empty.ensures ∙ w.if-is_empty.true)) w.if-self-eq0.true in
          front-begun (held_of self) c.args.text.now w.plain_front-front.result.length c.run_front-count.result nothing w.if-front-gt0.false c.requires.some (omega (arith, c.if-count-eq0.false)) w.plain_front-front.ensures.stops
      | else-is_empty w ↦ elim w.else-is_empty.branch [
        | else-is_empty-via-then-is_empty+else-self-eq0 w' ↦ held-begun (held_of self) (take c.run_front-count.result c.args.text.now) self.is_held.begins (λ none. w'.if-self-eq0.false (held-none self.held.items self.dots none).1)
        | else-is_empty-via-else-is_empty w' ↦ held-begun (held_of self) (take c.run_front-count.result c.args.text.now) self.is_held.begins (λ none. has_items self.held.items _ self.held.ok.0 (sym c.is_empty.ensures ∙ w'.if-is_empty.false) (held-none self.held.items self.dots none).0)
      ]
    ] in
    let held = c.in_ok-taken.ensures in
    TakesEntries-hold (g.D.Demangler.answer c.args.demangler.now) self c.hold.new.self c.args.text.now c.hold.new.out.items c.run_front-count.result c.in_ok-taken.taken _ held.letters refl front.within front.in_run begun not_past begins held.place held.count held.none_left (λ is. let h = held.held is in (h.0, h.2)) (λ is. let h = held.passes is in (h.0, h.3))
