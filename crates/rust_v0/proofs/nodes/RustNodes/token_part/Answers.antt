use Rattle.rust_v0.proofs.Basics.{refl, grows-same}
use Rattle.rust_v0.proofs.nodes.RustNodes.token_part.Goals as goal

pub returns-then-not-is_empty-clause-grows : goal.returns-then-not-is_empty-clause-grows
returns-then-not-is_empty-clause-grows c = grows-same c.args.self.now.nodes c.args.self.now.nodes refl

pub returns-in-PlainName-clause-grows : goal.returns-in-PlainName-clause-grows
returns-in-PlainName-clause-grows c = grows-same c.args.self.now.nodes c.args.self.now.nodes refl

pub returns-in-CharacterCode-clause-grows : goal.returns-in-CharacterCode-clause-grows
returns-in-CharacterCode-clause-grows c = grows-same c.args.self.now.nodes c.args.self.now.nodes refl

pub returns-in-CountedNumber-clause-grows : goal.returns-in-CountedNumber-clause-grows
returns-in-CountedNumber-clause-grows c = grows-same c.args.self.now.nodes c.args.self.now.nodes refl
