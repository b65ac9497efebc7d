-- A file stands for at most one node, and is wrong nowhere where it stands for one.
use Rattle.std.specs.Prelude.{◌≡◌, ℕ, ◌*◌, List}
use Rattle.std.proofs.Common.{inl, inr, sym, ◌∙◌, ap, subst, arith}
use Rattle.wire_prims.specs.Fields.{i64_at}
use Rattle.node_state.specs.Node.{Node, StandsFor, IsWrongAt, IsTerm, voted_in}

pub stands_once : (bytes : List ℕ) (a b : Node) → StandsFor bytes a → StandsFor bytes b → a ≡ b
stands_once bytes a b first second =
    let slot : a.slot ≡ b.slot = sym first.slot ∙ second.slot in
    let term : a.term ≡ b.term = sym first.term ∙ ap (λ (s : ℕ). i64_at (8 * s) bytes) slot ∙ second.term in
    let voted : a.voted ≡ b.voted = sym first.voted ∙ ap (voted_in bytes) slot ∙ second.voted in
    λ n. record { slot = slot n; term = term n; voted = voted n }

pub stands_not_wrong : (bytes : List ℕ) (a : Node) (place : ℕ) → StandsFor bytes a → IsWrongAt bytes place → ⊥
stands_not_wrong bytes a place stands (inl short) = omega (arith, short.0, stands.size)
stands_not_wrong bytes a place stands (inr (inl long)) = omega (arith, long.0, stands.size)
stands_not_wrong bytes a place stands (inr (inr out)) =
    let term = ap (λ (s : ℕ). i64_at (8 * s) bytes) stands.slot ∙ stands.term in
    out.1 (subst IsTerm (sym term) (stands.low, stands.high))
