-- Pieces in a file, one after another.
use Rattle.std.proofs.Common.{◌≡◌, ℕ, ◌+◌, ◌<◌, List, [], ◌∷◌, ◌++◌, length, take, drop, get_or, sym, ◌∙◌, ap, subst, arith, append_assoc, length-append}
use Rattle.std.proofs.Math.Seq.{take-add}
use Rattle.std.proofs.lemmas.List.{drop-drop, append-nil, take_more, take_all, get_or-take}
use Rattle.wire_prims.specs.Fields.{u32_at, le32, length-le32, IsBytes, take-u32_at, u32_at-same}
use Rattle.wire_prims.specs.Strict.{counted}
use Rattle.cl_base.specs.Disk.{DiskState, IsImage, IsImageOf, LeavesOnly}
use Rattle.cl_base.specs.Torn.{run_after, weaker}
use Rattle.snapshot_store.specs.Snapshots.{spelled, IsPiece, ArePieces}

pub counted_at : (file piece : List ℕ) (at n : ℕ) → le32 n ≡ take 4 (drop at file) → piece ≡ take n (drop (at + 4) file) → length piece ≡ n → take (4 + length piece) (drop at file) ≡ counted piece
counted_at file piece at n head body size =
    take-add 4 (length piece) (drop at file)
    ∙ ap (λ l. l ++ take (length piece) (drop 4 (drop at file))) (sym head)
    ∙ ap (λ l. le32 n ++ take (length piece) l) (drop-drop 4 at file)
    ∙ ap (λ m. le32 n ++ take m (drop (at + 4) file)) size
    ∙ ap (λ l. le32 n ++ l) (sym body)
    ∙ ap (λ m. le32 m ++ piece) (sym size)

pub spelled_more : (ps : List (List ℕ)) (p : List ℕ) → spelled (ps ++ p ∷ []) ≡ spelled ps ++ counted p
spelled_more [] p = append-nil (counted p)
spelled_more (q ∷ ps) p = ap (λ l. counted q ++ l) (spelled_more ps p) ∙ sym (append_assoc (counted q) (spelled ps) (counted p))

-- one look more
pub look_more : {D : Type 0} (state : D → DiskState) (moment : D → ℕ) (left_since : D → ℕ → (ℕ → List ℕ) → Type 0) (d0 d1 d2 : D)
    → LeavesOnly moment left_since d0 d1 (IsImageOf (state d0).files) → ((g : ℕ) → (state d1).files g ≡ (state d0).files g) → LeavesOnly moment left_since d1 d2 (IsImageOf (state d1).files)
    → LeavesOnly moment left_since d0 d2 (IsImageOf (state d0).files)
look_more state moment left_since d0 d1 d2 first same second =
    run_after moment left_since d0 d1 d2 (IsImageOf (state d0).files) first
    (weaker moment left_since d1 d2 (IsImageOf (state d1).files) (IsImageOf (state d0).files) (λ c image g. subst (λ s. IsImage s (c g)) (same g) (image g)) second)

-- pieces and one more
pub pieces_more : (ps : List (List ℕ)) (p : List ℕ) → ArePieces ps → IsPiece p → ArePieces (ps ++ p ∷ [])
pieces_more [] p all here = (here, tt)
pieces_more (q ∷ ps) p all here = (all.0, pieces_more ps p all.1 here)

pub length-counted : (p : List ℕ) → length (counted p) ≡ 4 + length p
length-counted p = omega (arith, length-append (le32 (length p)) p, length-le32 (length p))

-- the front of a file, and the piece behind it
pub front_more : (file : List ℕ) (ps : List (List ℕ)) (p : List ℕ) (at : ℕ) → take at file ≡ spelled ps → take (4 + length p) (drop at file) ≡ counted p → take (at + (4 + length p)) file ≡ spelled (ps ++ p ∷ [])
front_more file ps p at front here = take-add at (4 + length p) file ∙ ap (λ l. l ++ take (4 + length p) (drop at file)) front ∙ ap (λ l. spelled ps ++ l) here ∙ sym (spelled_more ps p)

pub count_more : (ps : List (List ℕ)) (p : List ℕ) (at : ℕ) → length (spelled ps) ≡ at → length (spelled (ps ++ p ∷ [])) ≡ at + (4 + length p)
count_more ps p at count = omega (arith, ap length (spelled_more ps p), length-append (spelled ps) (counted p), length-counted p, count)

pub spelled_step : (xs : List (List ℕ)) (i : ℕ) (x : List ℕ) → i < length xs → x ≡ get_or xs i x → spelled (take (i + 1) xs) ≡ spelled (take i xs) ++ counted x
spelled_step xs i x within is =
    ap spelled (take_more xs i x within) ∙ spelled_more (take i xs) (get_or xs i x) ∙ ap (λ l. spelled (take i xs) ++ counted l) (sym is)

-- a length that was read by itself
pub front_number : (at : ℕ) (file head : List ℕ) → head ≡ take 4 (drop at file) → u32_at 0 head ≡ u32_at at file
unfolding u32_at
front_number at file head is =
    u32_at-same 0 head (drop at file) (λ i low high. ap (λ l. get_or l i 0) is ∙ get_or-take 4 (drop at file) i 0 (omega arith))

pub number_spells : (head : List ℕ) → IsBytes head → length head ≡ 4 → le32 (u32_at 0 head) ≡ head
number_spells head fits size = take-u32_at 0 head fits (omega arith) ∙ take_all 4 head (omega arith)
