use Rattle.cpp_link.proofs.Basics.{sym, ◌∙◌, subst, ◌≡◌, ◌+◌, drop, length, OnOk, production_at, state_of, trees_in, values_in, around_of}
use Rattle.cpp_link.proofs.Rescoped.{apart_closes, closes_counted, apart_end}
use Rattle.cpp_link.proofs.wide_language.RescopingThreading.finish.Goals as goal

pub finish_substitution-requires-clause-substitution : goal.finish_substitution-requires-clause-substitution
finish_substitution-requires-clause-substitution c = sym c.production_of-production.ensures ∙ c.in-Substitution.is

pub returns-in-Substitution-clause-closes : goal.returns-in-Substitution-clause-closes
returns-in-Substitution-clause-closes c =
    closes_counted c.args.symbol.now c.args.self.now c.finish_substitution.new.self c.args.frame.now c.args.parts.now.items c.finish_substitution.new.parts.items c.finish_substitution.result c.requires.room.paid.begun
    c.finish_substitution.ensures.makes c.finish_substitution.ensures.closes

pub finish_lambda-requires-clause-lambda : goal.finish_lambda-requires-clause-lambda
finish_lambda-requires-clause-lambda c = sym c.production_of-production.ensures ∙ c.in-Lambda.is

pub returns-in-Lambda-clause-closes : goal.returns-in-Lambda-clause-closes
returns-in-Lambda-clause-closes c =
    closes_counted c.args.symbol.now c.args.self.now c.finish_lambda.new.self c.args.frame.now c.args.parts.now.items c.finish_lambda.new.parts.items c.finish_lambda.result c.requires.room.paid.begun
    c.finish_lambda.ensures.makes c.finish_lambda.ensures.closes

pub finish_inheriting-requires-clause-inheriting : goal.finish_inheriting-requires-clause-inheriting
finish_inheriting-requires-clause-inheriting c = sym c.production_of-production.ensures ∙ c.in-Inheriting.is

pub returns-in-Inheriting-clause-closes : goal.returns-in-Inheriting-clause-closes
returns-in-Inheriting-clause-closes c =
    closes_counted c.args.symbol.now c.args.self.now c.finish_inheriting.new.self c.args.frame.now c.args.parts.now.items c.finish_inheriting.new.parts.items c.finish_inheriting.result c.requires.room.paid.begun
    c.finish_inheriting.ensures.makes c.finish_inheriting.ensures.closes

pub finish_encoding-requires-clause-encoding : goal.finish_encoding-requires-clause-encoding
finish_encoding-requires-clause-encoding c = sym c.production_of-production.ensures ∙ c.in-Encoding.is

pub returns-in-Encoding-clause-closes : goal.returns-in-Encoding-clause-closes
returns-in-Encoding-clause-closes c =
    closes_counted c.args.symbol.now c.args.self.now c.finish_encoding.new.self c.args.frame.now c.args.parts.now.items c.finish_encoding.new.parts.items c.finish_encoding.result c.requires.room.paid.begun
    c.finish_encoding.ensures.makes c.finish_encoding.ensures.closes

pub finish_holder-requires-clause-holder : goal.finish_holder-requires-clause-holder
finish_holder-requires-clause-holder c = sym c.production_of-production.ensures ∙ c.in-Holder.is

pub returns-in-Holder-clause-closes : goal.returns-in-Holder-clause-closes
returns-in-Holder-clause-closes c =
    closes_counted c.args.symbol.now c.args.self.now c.finish_holder.new.self c.args.frame.now c.args.parts.now.items c.finish_holder.new.parts.items c.finish_holder.result c.requires.room.paid.begun
    c.finish_holder.ensures.makes c.finish_holder.ensures.closes

pub finish_literal-requires-clause-literal : goal.finish_literal-requires-clause-literal
finish_literal-requires-clause-literal c = sym c.production_of-production.ensures ∙ c.in-EncodingLiteral.is

pub returns-in-EncodingLiteral-clause-closes : goal.returns-in-EncodingLiteral-clause-closes
returns-in-EncodingLiteral-clause-closes c =
    closes_counted c.args.symbol.now c.args.self.now c.finish_literal.new.self c.args.frame.now c.args.parts.now.items c.finish_literal.new.parts.items c.finish_literal.result c.requires.room.paid.begun
    c.finish_literal.ensures.makes c.finish_literal.ensures.closes

pub returns-in_default-clause-closes : goal.returns-in_default-clause-closes
returns-in_default-clause-closes c =
    let s = c.args.symbol.now in
    let old = c.args.self.now in
    let new = c.finish_rule.new.self in
    let frame = c.args.frame.now in
    let parts = c.args.parts.now.items in
    let is = c.production_of-production.ensures in
    let known = values_in s old.linked.nodes (drop frame.base parts) in
    closes_counted s old new frame parts c.finish_rule.new.parts.items c.finish_rule.result c.requires.room.paid.begun
    (subst (λ n. OnOk c.finish_rule.result (length new.nodes.nodes ≡ length old.linked.nodes.nodes + n))
    (apart_end (production_at frame.rule) (around_of (trees_in s old.linked.nodes) frame.kept) frame.place known (state_of s old.linked) (λ e. c.in_default.not-Substitution (is ∙ e))) c.finish_rule.ensures.makes)
    (apart_closes s old.linked new frame parts c.finish_rule.new.parts.items c.finish_rule.result (record {
      not_substitution = λ e. c.in_default.not-Substitution (is ∙ e);
      not_lambda = λ e. c.in_default.not-Lambda (is ∙ e);
      not_inheriting = λ e. c.in_default.not-Inheriting (is ∙ e);
      not_holder = λ e. c.in_default.not-Holder (is ∙ e);
      not_encoding = λ e. c.in_default.not-Encoding (is ∙ e);
      not_encoding_literal = λ e. c.in_default.not-EncodingLiteral (is ∙ e);
    }) c.finish_rule.ensures.closes)
