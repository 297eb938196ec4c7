-- The driver is on its way, its rows and steps are those of the local variables, and it has kept no refusal.
use Rattle.sym_link.proofs.Basics.{◌≡◌, ◌+◌, ◌-◌, ◌*◌, ◌≤◌, length, None, Tree, IsShape, IsDriving, KeepsAllRoom}
use Rattle.sym_link.proofs.driver.Driver.run.Given as goal

abbrev pub invariant-moves : goal.invariant-moves
invariant-moves g l =
    (l.self.refused ≡ None)
    × ((tree : Tree) × IsShape (g.L.Linking.view l.symbol).table l.symbol l.rows tree
    × IsDriving (g.L.Linking.view l.symbol) l.symbol l.rows tree l.language l.steps None l.next l.self.frames.items l.self.parts.items)
    × ((tree : Tree) → IsShape (g.L.Linking.view l.symbol).table l.symbol l.rows tree
    → IsDriving (g.L.Linking.view l.symbol) l.symbol l.rows tree l.fn.language l.fn.self.steps l.fn.self.refused l.fn.self.next l.fn.self.frames.items l.fn.self.parts.items
    → IsDriving (g.L.Linking.view l.symbol) l.symbol l.rows tree l.language l.steps None l.next l.self.frames.items l.self.parts.items)
    × (l.fn.self.steps ≤ l.steps)
    × ((g.L.Linking.view l.symbol).size l.language + 2 * l.fn.self.steps ≤ (g.L.Linking.view l.symbol).size l.fn.language + 2 * l.steps)
    × KeepsAllRoom (g.L.Linking.view l.symbol) l.fn.language l.language l.fn.self.frames l.self.frames l.fn.self.parts l.self.parts

abbrev pub decreases-moves : goal.decreases-moves
decreases-moves g l = 2 * (length l.rows - l.next) + length l.self.frames.items
