use Rattle.cpp_link.proofs.Basics.{◌≡◌, sym, ◌∙◌, ap, subst, arith, ℕ, Bool, [], ◌∷◌, length, Some, None, Err, MatchOption, counted_value, Decimal, Seq36, BadReference, Continuation, is_instance, module_named, between_wide, Value, bytes_at, tree_at, Node, generic_read, trees_in, values_in, is_lambda, around_of, goes_on, IsStepOf}
use Rattle.cpp_link.proofs.Held.{held_second, base_first, declared_first, held_read, held_refused, base_read, declared_read, held_makes, base_makes, declared_makes, held_step}
use Rattle.cpp_link.proofs.Modules.{module_second, module_read, module_refused, module_makes}
use Rattle.cpp_link.proofs.PassedOver.{constraint_first, literal_second, encoding_early, constraint_read, literal_read, encoding_read, constraint_makes, literal_makes, encoding_makes}
use Rattle.cpp_link.proofs.Places.{values_length}
use Rattle.cpp_link.proofs.Rescoped.{apart_generic, going_unmarked, generic_is}
use Rattle.cpp_link.proofs.linked.Linked.step_apart.Goals as goal

pub returns-then-is_instance-clause-refused : goal.returns-then-is_instance-clause-refused
unfolding around_of
returns-then-is_instance-clause-refused c state counted =
    let s = c.args.symbol.now in
    let y = c.args.self.now.nodes in
    let one = held_second c.args.production (is_lambda c.args.kept.scope) (length c.args.parts.now) c.in-Holder.is c.requires.apart in
    ap (λ p. between_wide p (around_of (trees_in s y) c.args.kept) c.args.place (values_in s y c.args.parts.now) (record state { packs = c.args.self.now.packs })) c.in-Holder.is
    ∙ held_refused (around_of (trees_in s y) c.args.kept) c.args.place (values_in s y c.args.parts.now) (record state { packs = c.args.self.now.packs })
    (values_length s (trees_in s y) c.args.parts.now ∙ one) (ap is_instance (sym c.prefix_node-name.ensures.is) ∙ sym c.is_instance.ensures ∙ c.if-is_instance.true)

pub returns-else-is_instance-clause-is : goal.returns-else-is_instance-clause-is
returns-else-is_instance-clause-is c state counted =
    let s = c.args.symbol.now in
    let y = c.args.self.now.nodes in
    let one = held_second c.args.production (is_lambda c.args.kept.scope) (length c.args.parts.now) c.in-Holder.is c.requires.apart in
    rw (c.in-Holder.is, c.listed_name.ensures) (held_read s y c.args.kept c.args.place (values_in s y c.args.parts.now) state c.args.self.now.packs c.prefix_node-name.result
    (values_length s (trees_in s y) c.args.parts.now ∙ one) c.prefix_node-name.ensures.is (sym c.is_instance.ensures ∙ c.if-is_instance.false))

pub returns-else-is_instance-clause-of : goal.returns-else-is_instance-clause-of
returns-else-is_instance-clause-of c =
    let one = held_second c.args.production (is_lambda c.args.kept.scope) (length c.args.parts.now) c.in-Holder.is c.requires.apart in
    rw (c.in-Holder.is, c.listed_name.ensures) (held_step (length c.args.parts.now) (Node.Holder c.prefix_node-name.result) c.args.self.now.packs one)

pub returns-else-is_instance-clause-makes : goal.returns-else-is_instance-clause-makes
returns-else-is_instance-clause-makes c =
    let s = c.args.symbol.now in
    let y = c.args.self.now.nodes in
    let one = held_second c.args.production (is_lambda c.args.kept.scope) (length c.args.parts.now) c.in-Holder.is c.requires.apart in
    rw (c.in-Holder.is, c.listed_name.ensures) (held_makes (values_in s y c.args.parts.now) (values_length s (trees_in s y) c.args.parts.now ∙ one))

pub returns-in-HeldArguments-clause-is : goal.returns-in-HeldArguments-clause-is
returns-in-HeldArguments-clause-is c state counted =
    let s = c.args.symbol.now in
    let y = c.args.self.now.nodes in
    let none = base_first c.args.production (is_lambda c.args.kept.scope) (length c.args.parts.now) c.in-HeldArguments.is c.requires.apart in
    rw (c.in-HeldArguments.is, c.go.ensures) (base_read s y c.args.kept c.inside.result c.args.place (values_in s y c.args.parts.now) state c.args.self.now.packs
    (values_length s (trees_in s y) c.args.parts.now ∙ none) (c.inside.ensures.around (trees_in s y)))

pub returns-in-HeldArguments-clause-makes : goal.returns-in-HeldArguments-clause-makes
returns-in-HeldArguments-clause-makes c =
    let s = c.args.symbol.now in
    let y = c.args.self.now.nodes in
    let none = base_first c.args.production (is_lambda c.args.kept.scope) (length c.args.parts.now) c.in-HeldArguments.is c.requires.apart in
    rw (c.in-HeldArguments.is, c.go.ensures) (base_makes (values_in s y c.args.parts.now) (values_length s (trees_in s y) c.args.parts.now ∙ none))

pub returns-in-DeclaredFirst-clause-is : goal.returns-in-DeclaredFirst-clause-is
returns-in-DeclaredFirst-clause-is c state counted =
    let s = c.args.symbol.now in
    let y = c.args.self.now.nodes in
    let none = declared_first c.args.production (is_lambda c.args.kept.scope) (length c.args.parts.now) c.in-DeclaredFirst.is c.requires.apart in
    rw (c.in-DeclaredFirst.is, c.go-in-DeclaredFirst.ensures) (declared_read s y c.args.kept c.args.place (values_in s y c.args.parts.now) state c.args.self.now.packs (values_length s (trees_in s y) c.args.parts.now ∙ none))

pub returns-in-DeclaredFirst-clause-makes : goal.returns-in-DeclaredFirst-clause-makes
returns-in-DeclaredFirst-clause-makes c =
    let s = c.args.symbol.now in
    let y = c.args.self.now.nodes in
    let none = declared_first c.args.production (is_lambda c.args.kept.scope) (length c.args.parts.now) c.in-DeclaredFirst.is c.requires.apart in
    rw (c.in-DeclaredFirst.is, c.go-in-DeclaredFirst.ensures) (declared_makes (values_in s y c.args.parts.now) (values_length s (trees_in s y) c.args.parts.now ∙ none))

pub returns-in-Constraint-clause-is : goal.returns-in-Constraint-clause-is
returns-in-Constraint-clause-is c state counted =
    let s = c.args.symbol.now in
    let y = c.args.self.now.nodes in
    let none = constraint_first c.args.production (is_lambda c.args.kept.scope) (length c.args.parts.now) c.in-Constraint.is c.requires.apart in
    rw (c.in-Constraint.is, c.go-in-Constraint.ensures) (constraint_read s y c.args.kept c.in_constraint.result c.args.place (values_in s y c.args.parts.now) state c.args.self.now.packs
    (values_length s (trees_in s y) c.args.parts.now ∙ none) (c.in_constraint.ensures.around (trees_in s y)))

pub returns-in-Constraint-clause-makes : goal.returns-in-Constraint-clause-makes
returns-in-Constraint-clause-makes c = rw (c.in-Constraint.is, c.go-in-Constraint.ensures) (constraint_makes (values_in c.args.symbol.now c.args.self.now.nodes c.args.parts.now))

pub returns-in-EncodingLiteral-clause-is : goal.returns-in-EncodingLiteral-clause-is
returns-in-EncodingLiteral-clause-is c state counted =
    let s = c.args.symbol.now in
    let y = c.args.self.now.nodes in
    let one = literal_second c.args.production (is_lambda c.args.kept.scope) (length c.args.parts.now) c.in-EncodingLiteral.is c.requires.apart in
    rw (c.in-EncodingLiteral.is, c.go-in-EncodingLiteral.ensures) (literal_read s y c.args.kept c.in_literal.result c.args.place (values_in s y c.args.parts.now) state c.args.self.now.packs
    (values_length s (trees_in s y) c.args.parts.now ∙ one) (c.in_literal.ensures.around (trees_in s y)))

pub returns-in-EncodingLiteral-clause-makes : goal.returns-in-EncodingLiteral-clause-makes
returns-in-EncodingLiteral-clause-makes c = rw (c.in-EncodingLiteral.is, c.go-in-EncodingLiteral.ensures) (literal_makes (values_in c.args.symbol.now c.args.self.now.nodes c.args.parts.now))

pub returns-in-Encoding-clause-is : goal.returns-in-Encoding-clause-is
returns-in-Encoding-clause-is c state counted =
    let s = c.args.symbol.now in
    let y = c.args.self.now.nodes in
    let few = encoding_early c.args.production (is_lambda c.args.kept.scope) (length c.args.parts.now) c.in-Encoding.is c.requires.apart in
    let many = values_length s (trees_in s y) c.args.parts.now in
    rw (c.in-Encoding.is, c.go-in-Encoding.ensures) (encoding_read s y c.args.kept c.in_encoding_apart.result c.args.place (values_in s y c.args.parts.now) state c.args.self.now.packs (omega (arith, many, few))
    (λ none. c.in_encoding_apart.ensures.name (sym many ∙ none)) (λ one. c.in_encoding_apart.ensures.types (sym many ∙ one)))

pub returns-in-Encoding-clause-makes : goal.returns-in-Encoding-clause-makes
returns-in-Encoding-clause-makes c = rw (c.in-Encoding.is, c.go-in-Encoding.ensures) (encoding_makes (values_in c.args.symbol.now c.args.self.now.nodes c.args.parts.now))

pub returns-in_default-clause-is : goal.returns-in_default-clause-is
returns-in_default-clause-is c state counted =
    let s = c.args.symbol.now in
    let y = c.args.self.now.nodes in
    let own = apart_generic c.args.production (is_lambda c.args.kept.scope) (length c.args.parts.now) c.requires.apart (record {
      not_holder = c.in_default.not-Holder;
      not_held_arguments = c.in_default.not-HeldArguments;
      not_declared_first = c.in_default.not-DeclaredFirst;
      not_constraint = c.in_default.not-Constraint;
      not_encoding_literal = c.in_default.not-EncodingLiteral;
      not_encoding = c.in_default.not-Encoding;
      not_named_module = c.in_default.not-NamedModule;
    }) in
    let Reads : Bool → Value → Type 0 = λ b v.
    generic_read b (around_of (trees_in s y) c.args.kept) (counted_value Decimal (bytes_at s c.text-digits-in_default.result)) (record state { packs = c.args.self.now.packs })
    ≡ goes_on s y c.args.kept (v ∷ []) state c.args.self.now.packs c.generic.result in
    generic_is s y c.args.kept c.args.production c.args.place c.args.parts.now (bytes_at s c.text-digits-in_default.result) state c.args.self.now.packs c.generic.result
    own.0 own.1.0 own.1.1 c.text-digits-in_default.ensures.is (λ v. subst (λ b. Reads b v) c.is_parameter_argument-is_argument.ensures (c.generic.ensures.is v state))
    ∙ sym (going_unmarked c.args.production (around_of (trees_in s y) c.args.kept) _ c.in_default.not-Holder c.in_default.not-HeldArguments)

pub returns-in_default-clause-of : goal.returns-in_default-clause-of
returns-in_default-clause-of c =
    let own = apart_generic c.args.production (is_lambda c.args.kept.scope) (length c.args.parts.now) c.requires.apart (record {
      not_holder = c.in_default.not-Holder;
      not_held_arguments = c.in_default.not-HeldArguments;
      not_declared_first = c.in_default.not-DeclaredFirst;
      not_constraint = c.in_default.not-Constraint;
      not_encoding_literal = c.in_default.not-EncodingLiteral;
      not_encoding = c.in_default.not-Encoding;
      not_named_module = c.in_default.not-NamedModule;
    }) in
    subst (λ n. IsStepOf c.args.production n c.generic.result) (sym own.1.1) (c.generic.ensures.of c.args.production own.0)

pub returns-in_default-clause-makes : goal.returns-in_default-clause-makes
returns-in_default-clause-makes c =
    let s = c.args.symbol.now in
    let y = c.args.self.now.nodes in
    let own = apart_generic c.args.production (is_lambda c.args.kept.scope) (length c.args.parts.now) c.requires.apart (record {
      not_holder = c.in_default.not-Holder;
      not_held_arguments = c.in_default.not-HeldArguments;
      not_declared_first = c.in_default.not-DeclaredFirst;
      not_constraint = c.in_default.not-Constraint;
      not_encoding_literal = c.in_default.not-EncodingLiteral;
      not_encoding = c.in_default.not-Encoding;
      not_named_module = c.in_default.not-NamedModule;
    }) in
    c.generic.ensures.makes c.args.production (values_in s y c.args.parts.now) own.0 (values_length s (trees_in s y) c.args.parts.now ∙ own.1.1)

pub returns-in-Some-clause-is : goal.returns-in-Some-clause-is
returns-in-Some-clause-is c state counted =
    let s = c.args.symbol.now in
    let y = c.args.self.now.nodes in
    let one = module_second c.args.production (is_lambda c.args.kept.scope) (length c.args.parts.now) c.in-NamedModule.is c.requires.apart in
    let named = subst (λ o. MatchOption o (module_named (counted_value Seq36 (bytes_at s c.text-digits.result)) state ≡ None)
    (λ node. module_named (counted_value Seq36 (bytes_at s c.text-digits.result)) state ≡ Some (tree_at (trees_in s y) node))) c.in-Some.is (c.named_module.ensures.is state counted) in
    rw c.in-NamedModule.is (module_read s y c.args.kept c.args.place (values_in s y c.args.parts.now) state c.args.self.now.packs (bytes_at s c.text-digits.result) c.in-Some.node
    (values_length s (trees_in s y) c.args.parts.now ∙ one) c.text-digits.ensures.is named)

pub returns-in-Some-clause-of : goal.returns-in-Some-clause-of
returns-in-Some-clause-of c =
    let one = module_second c.args.production (is_lambda c.args.kept.scope) (length c.args.parts.now) c.in-NamedModule.is c.requires.apart in
    omega (arith, one)

pub returns-in-Some-clause-makes : goal.returns-in-Some-clause-makes
returns-in-Some-clause-makes c =
    let s = c.args.symbol.now in
    let y = c.args.self.now.nodes in
    let one = module_second c.args.production (is_lambda c.args.kept.scope) (length c.args.parts.now) c.in-NamedModule.is c.requires.apart in
    rw c.in-NamedModule.is (module_makes (values_in s y c.args.parts.now) (values_length s (trees_in s y) c.args.parts.now ∙ one))

pub returns-in_default-named_module-clause-refused : goal.returns-in_default-named_module-clause-refused
returns-in_default-named_module-clause-refused c state counted =
    let s = c.args.symbol.now in
    let y = c.args.self.now.nodes in
    let one = module_second c.args.production (is_lambda c.args.kept.scope) (length c.args.parts.now) c.in-NamedModule.is c.requires.apart in
    let refused : ℕ → Continuation = λ place. Err (BadReference place) in
    ap (λ p. between_wide p (around_of (trees_in s y) c.args.kept) c.args.place (values_in s y c.args.parts.now) (record state { packs = c.args.self.now.packs })) c.in-NamedModule.is
    ∙ module_refused (around_of (trees_in s y) c.args.kept) c.args.place (values_in s y c.args.parts.now) state c.args.self.now.packs (bytes_at s c.text-digits.result)
    (values_length s (trees_in s y) c.args.parts.now ∙ one) c.text-digits.ensures.is (c.in_default-named_module.ensures.is state counted) ∙ ap refused (sym c.saturating_sub-at.ensures)
