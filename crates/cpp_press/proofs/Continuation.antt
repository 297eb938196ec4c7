-- No turn of the writer changes the whole spelling: what is written, followed by what is still to be written.
use Rattle.cpp_press.proofs.Basics.{◌≡◌, ℕ, ◌+◌, ◌<◌, length, List, [], ◌∷◌, ◌++◌, Option, Some, None, refl, ap, sym, subst, arith, ◌∙◌, append_assoc, append-nil, length-append, Term, ReadSymbol, whole_of, Component, Spelling, first_equal, ended, ways_of, pressed, spelled_components, Likeness, Task, Way, ◌onto◌, written, in_way, ending, plain_at, press_task, press_tasks, IsTask, AreTasks, task_weight, tasks_weight, noted, likeness_of, ArePlaces, AreFirst, AreOfNodes, behind, Goes, HasFewComponents}
use Rattle.std.specs.Option.{option_to_list}
use Rattle.sym_spell.specs.Pressing.{Pressed}
use Rattle.sym_spell.proofs.Spellings.{and-nothing}
use Rattle.cpp_spelling.proofs.Pushed.{tasks-push, weight-push, tasks-less}
use Rattle.cpp_press.proofs.Placing.{places-go}
use Rattle.cpp_press.proofs.Counting.{few-components}

-- ## The last task

pub record IsLast (tasks older : List Task) (t : Task) : Type 0 where
  pub is : tasks ≡ older ++ t ∷ []

pub popped : {tasks : List Task} (older : List Task) {o : Option Task} {task t : Task} → tasks ≡ older ++ option_to_list o → o ≡ Some task
    → task ≡ t → IsLast tasks older t
popped older is some same = record { is = is ∙ ap (λ p. older ++ option_to_list p) (some ∙ ap Some same) }

-- the last task and those before it are tasks of the symbol
pub task-there : {y : ReadSymbol} {ns : List ℕ} {whole : Term} {first : Likeness
    → Option ℕ} {count : ℕ} {tasks older : List Task} {out : List ℕ} {t : Task}
    → Goes y ns whole first count tasks out → IsLast tasks older t → IsTask y t × AreTasks y older
task-there {y = y} {older = older} {t = t} g last = tasks-less y older t (subst (AreTasks y) last.is g.tasks_are)

pub weight-there : (y : ReadSymbol) {tasks older : List Task} {t : Task} → IsLast tasks older t
    → tasks_weight y tasks ≡ task_weight y t + tasks_weight y older
weight-there y {older = older} {t = t} last = ap (tasks_weight y) last.is ∙ weight-push y older t

top : (y : ReadSymbol) {tasks older : List Task} {t : Task} → IsLast tasks older t
    → ◌≡◌ {A = Spelling} (press_tasks y tasks) (press_task y t onto press_tasks y older)
top y {older = older} {t = t} last = ap (press_tasks y) last.is ∙ tasks-push y older t

-- ## What is written

again : (out : List ℕ) (f g : Spelling) (cs : List Component) → f ≡ g → behind out (f (length out) cs) ≡ behind out (g (length out) cs)
again out f g cs same = ap {A = Spelling} (λ (h : Spelling). behind out (h (length out) cs)) same

-- once a text is written, the whole is the bytes so far, then the text, then the bytes of the rest
bytes-behind : (f : Spelling) (xs ys : List ℕ) (cs : List Component) (p q : ℕ) → p ≡ q
    → ◌≡◌ {A = Pressed Component} (behind (xs ++ ys) (f p cs)) (record { bytes = xs ++ (ys ++ (f q cs).bytes); components = (f q cs).components })
bytes-behind f xs ys cs p q same = rw (same, append_assoc xs ys (f q cs).bytes) refl

text-behind : (f : Spelling) (out after bytes : List ℕ) (cs : List Component) → after ≡ out ++ bytes
    → behind after (f (length after) cs) ≡ behind out ((written bytes onto f) (length out) cs)
unfolding ◌onto◌ written
text-behind f out after bytes cs is =
    ap (λ l. behind l (f (length l) cs)) is ∙ bytes-behind f out bytes cs (length (out ++ bytes)) (length out + length bytes) (length-append out bytes)

-- the end of a component writes no bytes
nothing-behind : (out : List ℕ) (f : Spelling) (cs : List Component) (p q : ℕ) → p ≡ q → behind out (f p cs) ≡ behind out (f q cs)
nothing-behind out f cs p q same = ap (λ n. behind out (f n cs)) same

end-behind : (f : Spelling) (out : List ℕ) (t : Term) (e : ℕ) (cs : List Component)
    → behind out (f (length out) (cs ++ record { tree = t; encoding = e } ∷ [])) ≡ behind out ((ending e t onto f) (length out) cs)
unfolding ◌onto◌ ending ended
end-behind f out t e cs = nothing-behind out f (cs ++ record { tree = t; encoding = e } ∷ []) (length out) (length out + 0) (omega arith)

own-more : (y : ReadSymbol) (cs : List Component) (node e : ℕ) → node < length y.table.nodes → AreOfNodes y cs
    → AreOfNodes y (cs ++ record { tree = plain_at y node; encoding = e } ∷ [])
own-more y [] node e low own = ((node, low, refl), tt)
own-more y (c ∷ cs) node e low own = (own.0, own-more y cs node e low own.1)

-- ## Turns

-- the invariant still holds once other tasks replace the task for a tree or a template
pub changed-goes : {y : ReadSymbol} {ns : List ℕ} {whole : Term} {first : Likeness
    → Option ℕ} {count : ℕ} {tasks older new : List Task} {out : List ℕ} {t : Task}
    → Goes y ns whole first count tasks out → IsLast tasks older t → AreTasks y new
    → ((cs : List Component) → ArePlaces y ns first cs
    → press_tasks y new (length out) cs ≡ (press_task y t onto press_tasks y older) (length out) cs)
    → Goes y ns whole first count new out
changed-goes {y} {tasks = tasks} {older = older} {out = out} {t = t} g last are same = record {
  components = g.components;
  places = g.places;
  counted = g.counted;
  own = g.own;
  tasks_are = are;
  spelled = ap (behind out) (same g.components g.places)
      ∙ again out (press_task y t onto press_tasks y older) (press_tasks y tasks) g.components (sym (top y last))
      ∙ g.spelled;
}

pub text-goes : {y : ReadSymbol} {ns : List ℕ} {whole : Term} {first : Likeness
    → Option ℕ} {count : ℕ} {tasks older : List Task} {out after : List ℕ} (bytes : List ℕ) (t : Task)
    → Goes y ns whole first count tasks out → IsLast tasks older t → ◌≡◌ {A = Spelling} (press_task y t) (written bytes)
    → after ≡ out ++ bytes
    → Goes y ns whole first count older after
text-goes {y} {tasks = tasks} {older = older} {out = out} {after = after} bytes t g last told after_is = record {
  components = g.components;
  places = g.places;
  counted = g.counted;
  own = g.own;
  tasks_are = (task-there g last).1;
  spelled = text-behind (press_tasks y older) out after bytes g.components after_is
      ∙ again out (written bytes onto press_tasks y older) (press_tasks y tasks) g.components
      (ap {A = Spelling} {B = Spelling} (λ (f : Spelling). f onto press_tasks y older) (sym told) ∙ sym (top y last))
      ∙ g.spelled;
}

pub ended-goes : {y : ReadSymbol} {ns : List ℕ} {whole : Term} {first new : Likeness
    → Option ℕ} {count after : ℕ} {tasks older : List Task} {out : List ℕ} (node e : ℕ)
    → AreFirst y ns → Goes y ns whole first count tasks out → IsLast tasks older (Task.Ended node e)
    → ((q : Likeness) → new q ≡ noted first (likeness_of y ns node e) count q) → after ≡ count + 1 → Goes y ns whole new after older out
ended-goes {y} {ns} {first = first} {new = new} {count = count} {tasks = tasks} {older = older} {out = out} node e are g last news counts =
    let there = task-there g last in
    record {
      components = g.components ++ record { tree = plain_at y node; encoding = e } ∷ [];
      places = places-go y ns first new g.components count node e are g.places there.0 g.counted news;
      counted = omega (arith, counts, g.counted, length-append g.components (record { tree = plain_at y node; encoding = e } ∷ []));
      own = own-more y g.components node e there.0 g.own;
      tasks_are = there.1;
      spelled = end-behind (press_tasks y older) out (plain_at y node) e g.components
          ∙ again out (ending e (plain_at y node) onto press_tasks y older) (press_tasks y tasks) g.components (sym (top y last))
          ∙ g.spelled;
    }

-- ## Before the first turn, and after the last

pub first-goes : {y : ReadSymbol} {ns : List ℕ} {first : Likeness → Option ℕ} {count : ℕ} {tasks : List Task} {out : List ℕ}
    → ((q : Likeness) → first q ≡ None) → count ≡ 0 → AreTasks y tasks
    → ◌≡◌ {A = Spelling} (press_tasks y tasks) (in_way 0 Way.Encoding (plain_at y y.root) onto press_tasks y []) → out ≡ []
    → Goes y ns (plain_at y y.root) first count tasks out
unfolding in_way press_tasks ◌onto◌ first_equal
first-goes {y} {ns} {tasks = tasks} none zeros are is empty = record {
  components = [];
  places = λ node e low. none (likeness_of y ns node e);
  counted = zeros;
  own = tt;
  tasks_are = are;
  spelled = ap (λ l. behind l (press_tasks y tasks (length l) [])) empty
      ∙ again [] (press_tasks y tasks) (ways_of 0 (plain_at y y.root)).as_encoding [] (is ∙ and-nothing ((ways_of 0 (plain_at y y.root)).as_encoding));
}

last-spelled : {y : ReadSymbol} {ns : List ℕ} {whole : Term} {first : Likeness → Option ℕ} {count : ℕ} {tasks : List Task} {out : List ℕ}
    → (g : Goes y ns whole first count tasks out) → tasks ≡ []
    → behind out (record { bytes = []; components = g.components }) ≡ (ways_of 0 whole).as_encoding 0 []
unfolding press_tasks
last-spelled {y} {out = out} g is = ap (λ l. behind out (press_tasks y l (length out) g.components)) (sym is) ∙ g.spelled

pub last-goes : {y : ReadSymbol} {ns : List ℕ} {whole : Term} {first : Likeness → Option ℕ} {count : ℕ} {tasks : List Task} {out : List ℕ}
    → Goes y ns whole first count tasks out → tasks ≡ [] → out ≡ pressed whole
unfolding pressed
last-goes {out = out} g is = sym (append-nil out) ∙ ap (λ one. one.bytes) (last-spelled g is)

pub last-few : {y : ReadSymbol} {ns : List ℕ} {first : Likeness → Option ℕ} {count : ℕ} {tasks : List Task} {out : List ℕ}
    → Goes y ns (whole_of y) first count tasks out → tasks ≡ [] → HasFewComponents y
unfolding spelled_components
last-few {y} g is = few-components y g.components g.own (ap (λ one. one.components) (last-spelled g is))
