-- The number is looked for in the list.
use Rattle.std.proofs.Common.{ℕ, List, eqb, subst}
use Rattle.std.specs.Prelude.{Contains, IsTrue, ◌↔◌}
use Rattle.std.proofs.lemmas.List.Elements.{contains_decides, Decides-contains}
use Rattle.std.proofs.lemmas.Bool.Decides.{Decides-eqb}
use Rattle.cl_memdisk.proofs.disk.MemDisk.next_fails.Goals as goal

pub returns-clause-listed : goal.returns-clause-listed
returns-clause-listed c =
    let n = c.saturating_add-self.result in
    let found = Decides-contains c.deref.result.now n c.contains.result (contains_decides eqb Decides-eqb c.deref.result.now n c.contains.result c.contains.ensures.cases) in
    let listed = subst (λ (l : List ℕ). IsTrue c.contains.result ↔ Contains l n) c.deref.ensures.value found in
    subst (λ (k : ℕ). IsTrue c.contains.result ↔ Contains c.args.self.now.failing.items k) c.saturating_add-self.ensures listed
