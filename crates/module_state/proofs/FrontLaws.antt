-- Records that are read as pieces, one by one.
use Rattle.std.proofs.Common.{◌≡◌, ℕ, ◌+◌, ◌<◌, List, [], ◌∷◌, ◌++◌, length, drop, get_or, append_assoc, append-nil, Option, None, Some, Ok, Err, sym, ap, subst, ◌∙◌}
use Rattle.std.specs.List.{AllByRecursion}
use Rattle.std.proofs.lemmas.List.{drop_more}
use Rattle.wire_prims.specs.Fields.{u16_at}
use Rattle.wire_prims.specs.declared.fault.Bad.{Bad}
use Rattle.sbe_local.specs.declared.piece.Piece.{Piece}
use Rattle.sbe_local.specs.Pieces.{HasPieceSpelling, first_fault_piece, piece_spelling_of, piece_value}
use Rattle.sbe_local.proofs.PieceLaws.{again}
use Rattle.module_state.specs.Restored.{IsReadAs, piece_of, put_piece, front_pieces, first_of, front_fault}

-- what has a spelling is what is read of it
pub read_ok : (bytes : List ℕ) (p : Piece) → HasPieceSpelling p × (piece_spelling_of p ≡ bytes) → IsReadAs bytes (Ok p)
read_ok bytes p h = (
  subst (λ (b : List ℕ). first_fault_piece b ≡ None) h.1 (again p h.0).fault,
  sym (again p h.0).value ∙ ap (λ (b : List ℕ). piece_value (u16_at 2 b) b) h.1,
  h.0,
)

at_place : (rs : List (List ℕ)) (i : ℕ) (r : List ℕ) → i < length rs → r ≡ get_or rs i r → drop i rs ≡ r ∷ drop (i + 1) rs
at_place rs i r b at = drop_more rs i r b ∙ ap (λ (x : List ℕ). x ∷ drop (i + 1) rs) (sym at)

-- the record at a place spells a piece
pub pieces_more : (rs : List (List ℕ)) (i : ℕ) (r : List ℕ) (p : Piece) (found new whole : List Piece) → i < length rs → r ≡ get_or rs i r → IsReadAs r (Ok p) → new ≡ found ++ p ∷ []
    → found ++ front_pieces (drop i rs) ≡ whole → new ++ front_pieces (drop (i + 1) rs) ≡ whole
pieces_more rs i r p found new whole b at read pushed before =
    ap (λ (l : List Piece). l ++ front_pieces (drop (i + 1) rs)) pushed ∙ append_assoc found (p ∷ []) (front_pieces (drop (i + 1) rs))
    ∙ ap (λ (l : List Piece). found ++ l) (sym (ap front_pieces (at_place rs i r b at) ∙ ap (λ (o : Option Bad). put_piece o (piece_of r) (front_pieces (drop (i + 1) rs))) read.0 ∙ ap (λ (x : Piece). x ∷ front_pieces (drop (i + 1) rs)) (sym read.1)))
    ∙ before

pub fault_more : (rs : List (List ℕ)) (i : ℕ) (r : List ℕ) (p : Piece) (whole : Option Bad) → i < length rs → r ≡ get_or rs i r → IsReadAs r (Ok p) → front_fault (drop i rs) ≡ whole → front_fault (drop (i + 1) rs) ≡ whole
fault_more rs i r p whole b at read before = sym (ap front_fault (at_place rs i r b at) ∙ ap (λ (o : Option Bad). first_of o (front_fault (drop (i + 1) rs))) read.0) ∙ before

-- it spells none
pub pieces_stop : (rs : List (List ℕ)) (i : ℕ) (r : List ℕ) (bad : Bad) (found whole : List Piece) → i < length rs → r ≡ get_or rs i r → IsReadAs r (Err bad) → found ++ front_pieces (drop i rs) ≡ whole → found ≡ whole
pieces_stop rs i r bad found whole b at read before =
    sym (ap (λ (l : List Piece). found ++ l) (ap front_pieces (at_place rs i r b at) ∙ ap (λ (o : Option Bad). put_piece o (piece_of r) (front_pieces (drop (i + 1) rs))) read) ∙ append-nil found) ∙ before

pub fault_stop : (rs : List (List ℕ)) (i : ℕ) (r : List ℕ) (bad : Bad) (whole : Option Bad) → i < length rs → r ≡ get_or rs i r → IsReadAs r (Err bad) → front_fault (drop i rs) ≡ whole → Some bad ≡ whole
fault_stop rs i r bad whole b at read before = sym (ap front_fault (at_place rs i r b at) ∙ ap (λ (o : Option Bad). first_of o (front_fault (drop (i + 1) rs))) read) ∙ before

pub push_spelled : (l new : List Piece) (p : Piece) (bytes : List ℕ) → IsReadAs bytes (Ok p) → new ≡ l ++ p ∷ [] → AllByRecursion HasPieceSpelling l → AllByRecursion HasPieceSpelling new
push_spelled l new p bytes read pushed h = subst (AllByRecursion HasPieceSpelling) (sym pushed) (push l h)
  where
    push : (l : List Piece) → AllByRecursion HasPieceSpelling l → AllByRecursion HasPieceSpelling (l ++ p ∷ [])
    push [] h = (read.2, tt)
    push (q ∷ l) h = (h.0, push l h.1)
