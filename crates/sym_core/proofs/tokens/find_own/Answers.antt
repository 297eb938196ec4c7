use Rattle.sym_core.proofs.Basics.{sym, ◌∙◌, arith, false≢true}
use Rattle.sym_core.proofs.NameTokens.{own_zero, own_bare, own_broken, own_whole}
use Rattle.sym_core.proofs.tokens.find_own.Goals as goal

pub returns-then-is_nameless : goal.returns-then-is_nameless
returns-then-is_nameless c =
    (omega arith, own_zero c.args.names c.args.bytes.now c.args.digits c.args.most c.requires.span c.requires.most (c.is_nameless.ensures.0 c.if-is_nameless.true))

pub returns-then-is_bare_digit : goal.returns-then-is_bare_digit
returns-then-is_bare_digit c =
    let mark = c.separator_len-skipped.ensures in
    own_bare c.args.names c.args.bytes.now c.args.digits c.separator_len-skipped.result c.args.most c.requires.span c.requires.most mark.separated mark.within (sym c.is_bare_digit.ensures ∙ c.if-is_bare_digit.true)

pub returns-then-count-most : goal.returns-then-count-most
returns-then-count-most c =
    let mark = c.separator_len-skipped.ensures in
    own_broken c.args.names c.args.bytes.now c.args.digits c.separator_len-skipped.result c.args.most c.own_len-count.result c.requires.span c.requires.most mark.separated mark.within (sym c.is_bare_digit.ensures ∙ c.if-is_bare_digit.false) c.own_len-count.ensures.own c.if-count-most.true

pub returns : goal.returns
returns c =
    let mark = c.separator_len-skipped.ensures in
    own_whole c.args.names c.args.bytes.now c.args.digits c.separator_len-skipped.result c.args.most c.own_len-count.result c.requires.span c.requires.most
    (λ none. false≢true (sym c.if-is_nameless.false ∙ c.is_nameless.ensures.1 none)) mark.separated mark.within (sym c.is_bare_digit.ensures ∙ c.if-is_bare_digit.false) c.own_len-count.ensures.own c.if-count-most.false
