use Rattle.rust_tree.proofs.Basics.{ap, subst, refl, take, inl, HasTypeParts, type_of, type_parts, trees_of}
use Rattle.rust_tree.proofs.Pushing.{starts, fills}
use Rattle.rust_tree.proofs.Showing.{deeper, early-type, early-types, early-constant, early-bounds}
use Rattle.rust_tree.proofs.symbol.Symbol.fill_ty.Goals as goal

pub returns-in-Basic-clause-shows : goal.returns-in-Basic-clause-shows
unfolding type_parts type_of
returns-in-Basic-clause-shows g c =
    fills c.args.self.now _ _ _ (c.push_basic.ensures.shows _ _ (starts c.args.self.now _)) (ap (λ t. type_parts c.args.ctx.detail c.args.ctx.bound (type_of c.args.self.now.bytes (trees_of c.args.self.now) t)) c.in-Basic.is)

pub returns-in-Array-clause-shows : goal.returns-in-Array-clause-shows
unfolding type_parts type_of
returns-in-Array-clause-shows g c =
    let t = early-type (trees_of c.args.self.now) c.args.node c.in-Array.element (subst (HasTypeParts c.args.self.now.bytes c.args.self.now.table.text (take c.args.node (trees_of c.args.self.now))) c.in-Array.is c.requires.parts).0 in
    let k = early-constant (trees_of c.args.self.now) c.args.node c.in-Array.size (subst (HasTypeParts c.args.self.now.bytes c.args.self.now.table.text (take c.args.node (trees_of c.args.self.now))) c.in-Array.is c.requires.parts).1 in
    fills c.args.self.now _ _ _ (c.push_array.ensures.shows _ _ (starts c.args.self.now _) t.1 (deeper c.args.ctx.bound c.in-Array.element c.args.node t.0 c.requires.depth) k.1 (deeper c.args.ctx.bound c.in-Array.size c.args.node k.0 c.requires.depth)) (ap (λ t. type_parts c.args.ctx.detail c.args.ctx.bound (type_of c.args.self.now.bytes (trees_of c.args.self.now) t)) c.in-Array.is)

pub returns-in-Slice-clause-shows : goal.returns-in-Slice-clause-shows
unfolding type_parts type_of
returns-in-Slice-clause-shows g c =
    let t = early-type (trees_of c.args.self.now) c.args.node c.in-Slice.element (subst (HasTypeParts c.args.self.now.bytes c.args.self.now.table.text (take c.args.node (trees_of c.args.self.now))) c.in-Slice.is c.requires.parts) in
    fills c.args.self.now _ _ _ (c.push_slice.ensures.shows _ _ (starts c.args.self.now _) t.1 (deeper c.args.ctx.bound c.in-Slice.element c.args.node t.0 c.requires.depth)) (ap (λ t. type_parts c.args.ctx.detail c.args.ctx.bound (type_of c.args.self.now.bytes (trees_of c.args.self.now) t)) c.in-Slice.is)

pub returns-in-Tuple-clause-shows : goal.returns-in-Tuple-clause-shows
unfolding type_parts type_of
returns-in-Tuple-clause-shows g c =
    let t = early-types (trees_of c.args.self.now) c.args.node c.in-Tuple.elements (subst (HasTypeParts c.args.self.now.bytes c.args.self.now.table.text (take c.args.node (trees_of c.args.self.now))) c.in-Tuple.is c.requires.parts) in
    fills c.args.self.now _ _ _ (c.push_text.ensures.shows _ _ (c.push_types.ensures.shows _ _ (c.push_closing.ensures.shows _ _ (starts c.args.self.now _)) (deeper c.args.ctx.bound c.in-Tuple.elements c.args.node t.0 c.requires.depth))) (ap (λ t. type_parts c.args.ctx.detail c.args.ctx.bound (type_of c.args.self.now.bytes (trees_of c.args.self.now) t)) c.in-Tuple.is)

pub returns-in-SharedReference-clause-shows : goal.returns-in-SharedReference-clause-shows
unfolding type_parts type_of
returns-in-SharedReference-clause-shows g c =
    let t = early-type (trees_of c.args.self.now) c.args.node c.in-SharedReference.referent (subst (HasTypeParts c.args.self.now.bytes c.args.self.now.table.text (take c.args.node (trees_of c.args.self.now))) c.in-SharedReference.is c.requires.parts) in
    fills c.args.self.now _ _ _ (c.push_reference.ensures.shows _ _ (c.push_item.ensures.shows _ _ (starts c.args.self.now _) t.1 (deeper c.args.ctx.bound c.in-SharedReference.referent c.args.node t.0 c.requires.depth))) (ap (λ t. type_parts c.args.ctx.detail c.args.ctx.bound (type_of c.args.self.now.bytes (trees_of c.args.self.now) t)) c.in-SharedReference.is)

pub returns-in-MutableReference-clause-shows : goal.returns-in-MutableReference-clause-shows
unfolding type_parts type_of
returns-in-MutableReference-clause-shows g c =
    let t = early-type (trees_of c.args.self.now) c.args.node c.in-MutableReference.referent (subst (HasTypeParts c.args.self.now.bytes c.args.self.now.table.text (take c.args.node (trees_of c.args.self.now))) c.in-MutableReference.is c.requires.parts) in
    fills c.args.self.now _ _ _ (c.push_reference-in-MutableReference.ensures.shows _ _ (c.push_item-in-MutableReference.ensures.shows _ _ (starts c.args.self.now _) t.1 (deeper c.args.ctx.bound c.in-MutableReference.referent c.args.node t.0 c.requires.depth))) (ap (λ t. type_parts c.args.ctx.detail c.args.ctx.bound (type_of c.args.self.now.bytes (trees_of c.args.self.now) t)) c.in-MutableReference.is)

pub returns-in-ConstPointer-clause-shows : goal.returns-in-ConstPointer-clause-shows
unfolding type_parts type_of
returns-in-ConstPointer-clause-shows g c =
    let t = early-type (trees_of c.args.self.now) c.args.node c.in-ConstPointer.pointee (subst (HasTypeParts c.args.self.now.bytes c.args.self.now.table.text (take c.args.node (trees_of c.args.self.now))) c.in-ConstPointer.is c.requires.parts) in
    fills c.args.self.now _ _ _ (c.push_pointer.ensures.shows _ _ (starts c.args.self.now _) t.1 (deeper c.args.ctx.bound c.in-ConstPointer.pointee c.args.node t.0 c.requires.depth)) (ap (λ t. type_parts c.args.ctx.detail c.args.ctx.bound (type_of c.args.self.now.bytes (trees_of c.args.self.now) t)) c.in-ConstPointer.is)

pub returns-in-MutPointer-clause-shows : goal.returns-in-MutPointer-clause-shows
unfolding type_parts type_of
returns-in-MutPointer-clause-shows g c =
    let t = early-type (trees_of c.args.self.now) c.args.node c.in-MutPointer.pointee (subst (HasTypeParts c.args.self.now.bytes c.args.self.now.table.text (take c.args.node (trees_of c.args.self.now))) c.in-MutPointer.is c.requires.parts) in
    fills c.args.self.now _ _ _ (c.push_pointer-in-MutPointer.ensures.shows _ _ (starts c.args.self.now _) t.1 (deeper c.args.ctx.bound c.in-MutPointer.pointee c.args.node t.0 c.requires.depth)) (ap (λ t. type_parts c.args.ctx.detail c.args.ctx.bound (type_of c.args.self.now.bytes (trees_of c.args.self.now) t)) c.in-MutPointer.is)

pub returns-in-Function-clause-shows : goal.returns-in-Function-clause-shows
unfolding type_parts type_of
returns-in-Function-clause-shows g c =
    let has = (subst (HasTypeParts c.args.self.now.bytes c.args.self.now.table.text (take c.args.node (trees_of c.args.self.now))) c.in-Function.is c.requires.parts) in
    fills c.args.self.now _ _ _ (c.push_function.ensures.shows _ _ (starts c.args.self.now _) (type_of c.args.self.now.bytes (trees_of c.args.self.now) c.args.ty, inl c.requires.tree) has.0 (rw (c.requires.tree, c.in-Function.is) refl)) (rw (c.requires.tree, c.in-Function.is) refl)

pub returns-in-Dyn-clause-shows : goal.returns-in-Dyn-clause-shows
unfolding type_parts type_of
returns-in-Dyn-clause-shows g c =
    let has = (subst (HasTypeParts c.args.self.now.bytes c.args.self.now.table.text (take c.args.node (trees_of c.args.self.now))) c.in-Dyn.is c.requires.parts) in
    let b = early-bounds (trees_of c.args.self.now) c.args.node c.in-Dyn.bounds has.1 in
    fills c.args.self.now _ _ _ (c.push_dyn.ensures.shows _ _ (starts c.args.self.now _) (type_of c.args.self.now.bytes (trees_of c.args.self.now) c.args.ty, inl c.requires.tree) b.0 has.0 (rw (c.requires.tree, c.in-Dyn.is) refl)) (ap (λ t. type_parts c.args.ctx.detail c.args.ctx.bound (type_of c.args.self.now.bytes (trees_of c.args.self.now) t)) c.in-Dyn.is)
