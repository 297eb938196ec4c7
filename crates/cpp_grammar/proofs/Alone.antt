-- In the ABI's grammar there is no tag, so what may follow any other name may also follow a parameter or a
-- substitution. No pack begins with an I, so a list of arguments is like the rest of the list after its first argument.
use Rattle.cpp_grammar.proofs.Basics.{◌≡◌, refl, sym, ◌∙◌, ℕ, Kind as OfKind, Table, Tree, branch, empty, token, fixed, IsTree, MAYBE_ARGUMENTS, ARGUMENTS_ALONE, NEST_REST, NEST_REST_ALONE, ARGUMENT_LIST, ARGUMENTS_FIRST, kinds, alternatives, choose, may_be_empty, abi}
use Rattle.cpp_grammar.specs.declared.kind.Kind.{Kind}
use Rattle.cpp_grammar.proofs.Choosing.{rule_at_kind, empty_at_kind}

pub alike : (g : Table) (j k : ℕ) → ((byte : ℕ) → g.rule j byte ≡ g.rule k byte) → g.may_be_empty j ≡ g.may_be_empty k → (t : Tree) → IsTree g (OfKind j) t → IsTree g (OfKind k) t
alike g j k rules empties (branch rule taken parts) is =
    (record { byte = is.0.byte; is_byte = is.0.is_byte; found = sym (rules is.0.byte) ∙ is.0.found; takes = is.0.takes }, is.1)
alike g j k rules empties empty is = sym empties ∙ is
alike g j k rules empties (token t) is = absurd is
alike g j k rules empties (fixed byte) is = absurd is

pub same_arguments : (byte : ℕ) → abi.rule MAYBE_ARGUMENTS byte ≡ abi.rule ARGUMENTS_ALONE byte
unfolding kinds choose alternatives
same_arguments byte = rule_at_kind MAYBE_ARGUMENTS Kind.MaybeArguments byte refl ∙ sym (rule_at_kind ARGUMENTS_ALONE Kind.ArgumentsAlone byte refl)

pub arguments_missing : abi.may_be_empty MAYBE_ARGUMENTS ≡ abi.may_be_empty ARGUMENTS_ALONE
unfolding kinds may_be_empty
arguments_missing = empty_at_kind MAYBE_ARGUMENTS Kind.MaybeArguments refl ∙ sym (empty_at_kind ARGUMENTS_ALONE Kind.ArgumentsAlone refl)

pub same_rests : (byte : ℕ) → abi.rule NEST_REST byte ≡ abi.rule NEST_REST_ALONE byte
unfolding kinds choose alternatives
same_rests byte = rule_at_kind NEST_REST Kind.NestRest byte refl ∙ sym (rule_at_kind NEST_REST_ALONE Kind.NestRestAlone byte refl)

pub rests_missing : abi.may_be_empty NEST_REST ≡ abi.may_be_empty NEST_REST_ALONE
unfolding kinds may_be_empty
rests_missing = empty_at_kind NEST_REST Kind.NestRest refl ∙ sym (empty_at_kind NEST_REST_ALONE Kind.NestRestAlone refl)

pub arguments_alone : (t : Tree) → IsTree abi (OfKind MAYBE_ARGUMENTS) t → IsTree abi (OfKind ARGUMENTS_ALONE) t
arguments_alone t is = alike abi MAYBE_ARGUMENTS ARGUMENTS_ALONE same_arguments arguments_missing t is

pub arguments_maybe : (t : Tree) → IsTree abi (OfKind ARGUMENTS_ALONE) t → IsTree abi (OfKind MAYBE_ARGUMENTS) t
arguments_maybe t is = alike abi ARGUMENTS_ALONE MAYBE_ARGUMENTS (λ b. sym (same_arguments b)) (sym arguments_missing) t is

pub rest_alone : (t : Tree) → IsTree abi (OfKind NEST_REST) t → IsTree abi (OfKind NEST_REST_ALONE) t
rest_alone t is = alike abi NEST_REST NEST_REST_ALONE same_rests rests_missing t is

pub rest_any : (t : Tree) → IsTree abi (OfKind NEST_REST_ALONE) t → IsTree abi (OfKind NEST_REST) t
rest_any t is = alike abi NEST_REST_ALONE NEST_REST (λ b. sym (same_rests b)) (sym rests_missing) t is

pub same_lists : (byte : ℕ) → abi.rule ARGUMENT_LIST byte ≡ abi.rule ARGUMENTS_FIRST byte
unfolding kinds choose alternatives
same_lists byte = rule_at_kind ARGUMENT_LIST Kind.ArgumentList byte refl ∙ sym (rule_at_kind ARGUMENTS_FIRST Kind.ArgumentsFirst byte refl)

pub lists_missing : abi.may_be_empty ARGUMENT_LIST ≡ abi.may_be_empty ARGUMENTS_FIRST
unfolding kinds may_be_empty
lists_missing = empty_at_kind ARGUMENT_LIST Kind.ArgumentList refl ∙ sym (empty_at_kind ARGUMENTS_FIRST Kind.ArgumentsFirst refl)

pub list_first : (t : Tree) → IsTree abi (OfKind ARGUMENT_LIST) t → IsTree abi (OfKind ARGUMENTS_FIRST) t
list_first t is = alike abi ARGUMENT_LIST ARGUMENTS_FIRST same_lists lists_missing t is

pub list_any : (t : Tree) → IsTree abi (OfKind ARGUMENTS_FIRST) t → IsTree abi (OfKind ARGUMENT_LIST) t
list_any t is = alike abi ARGUMENTS_FIRST ARGUMENT_LIST (λ b. sym (same_lists b)) (sym lists_missing) t is
