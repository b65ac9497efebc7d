-- Parts written one behind the other, from a file's begin on.
use Rattle.std.proofs.Common.{◌≡◌, ℕ, ◌+◌, ◌≤◌, List, [], ◌++◌, length, take, drop, replicate, drop-drop, refl, sym, ◌∙◌, ap, arith}
use Rattle.std.proofs.lemmas.List.{take_at, drop_at, drop_all, append-nil, length-append, length-replicate, take-replicate}
use Rattle.cl_base.specs.Disk.{overwritten}

-- a part that is written behind those that stand
next : (front b out : List ℕ) (at to : ℕ) → length front ≡ at → at + length b ≡ to → overwritten at b (front ++ drop at out) ≡ (front ++ b) ++ drop to out
next front b out at to len sum =
    let head : take at (front ++ drop at out) ≡ front = take_at front (drop at out) at len in
    let rest : drop (at + length b) (front ++ drop at out) ≡ drop to out =
    sym (drop-drop (length b) at (front ++ drop at out)) ∙ ap (λ l. drop (length b) l) (drop_at front (drop at out) at len) ∙ drop-drop (length b) at out ∙ ap (λ k. drop k out) sum in
    ap (λ l. (l ++ b) ++ drop (at + length b) (front ++ drop at out)) head ∙ ap (λ l. (front ++ b) ++ l) rest

pub header_written : (a b c d e f g z h o0 o1 o2 o3 o4 o5 o6 o7 o8 o9 : List ℕ)
    → length a ≡ 4 → length b ≡ 2 → length c ≡ 2 → length d ≡ 4 → length e ≡ 4 → length f ≡ 4 → length g ≡ 4 → length z ≡ 7 → length h ≡ 1
    → o1 ≡ overwritten 0 a o0 → o2 ≡ overwritten 4 b o1 → o3 ≡ overwritten 6 c o2 → o4 ≡ overwritten 8 d o3 → o5 ≡ overwritten 12 e o4 → o6 ≡ overwritten 16 f o5 → o7 ≡ overwritten 20 g o6 → o8 ≡ overwritten 24 z o7 → o9 ≡ overwritten 31 h o8
    → o9 ≡ overwritten 0 (a ++ b ++ c ++ d ++ e ++ f ++ g ++ z ++ h) o0
header_written a b c d e f g z h o0 o1 o2 o3 o4 o5 o6 o7 o8 o9 la lb lc ld le lf lg lz lh w1 w2 w3 w4 w5 w6 w7 w8 w9 =
    let e1 : o1 ≡ a ++ drop 4 o0 = w1 ∙ next [] a o0 0 4 refl (omega (arith, la)) in
    let n1 : length (a) ≡ 4 = la in
    let e2 : o2 ≡ (a ++ b) ++ drop 6 o0 = w2 ∙ ap (λ l. overwritten 4 b l) e1 ∙ next (a) b o0 4 6 n1 (omega (arith, lb)) in
    let n2 : length (a ++ b) ≡ 6 = omega (arith, n1, lb, length-append (a) b) in
    let e3 : o3 ≡ (a ++ b ++ c) ++ drop 8 o0 = w3 ∙ ap (λ l. overwritten 6 c l) e2 ∙ next (a ++ b) c o0 6 8 n2 (omega (arith, lc)) in
    let n3 : length (a ++ b ++ c) ≡ 8 = omega (arith, n2, lc, length-append (a ++ b) c) in
    let e4 : o4 ≡ (a ++ b ++ c ++ d) ++ drop 12 o0 = w4 ∙ ap (λ l. overwritten 8 d l) e3 ∙ next (a ++ b ++ c) d o0 8 12 n3 (omega (arith, ld)) in
    let n4 : length (a ++ b ++ c ++ d) ≡ 12 = omega (arith, n3, ld, length-append (a ++ b ++ c) d) in
    let e5 : o5 ≡ (a ++ b ++ c ++ d ++ e) ++ drop 16 o0 = w5 ∙ ap (λ l. overwritten 12 e l) e4 ∙ next (a ++ b ++ c ++ d) e o0 12 16 n4 (omega (arith, le)) in
    let n5 : length (a ++ b ++ c ++ d ++ e) ≡ 16 = omega (arith, n4, le, length-append (a ++ b ++ c ++ d) e) in
    let e6 : o6 ≡ (a ++ b ++ c ++ d ++ e ++ f) ++ drop 20 o0 = w6 ∙ ap (λ l. overwritten 16 f l) e5 ∙ next (a ++ b ++ c ++ d ++ e) f o0 16 20 n5 (omega (arith, lf)) in
    let n6 : length (a ++ b ++ c ++ d ++ e ++ f) ≡ 20 = omega (arith, n5, lf, length-append (a ++ b ++ c ++ d ++ e) f) in
    let e7 : o7 ≡ (a ++ b ++ c ++ d ++ e ++ f ++ g) ++ drop 24 o0 = w7 ∙ ap (λ l. overwritten 20 g l) e6 ∙ next (a ++ b ++ c ++ d ++ e ++ f) g o0 20 24 n6 (omega (arith, lg)) in
    let n7 : length (a ++ b ++ c ++ d ++ e ++ f ++ g) ≡ 24 = omega (arith, n6, lg, length-append (a ++ b ++ c ++ d ++ e ++ f) g) in
    let e8 : o8 ≡ (a ++ b ++ c ++ d ++ e ++ f ++ g ++ z) ++ drop 31 o0 = w8 ∙ ap (λ l. overwritten 24 z l) e7 ∙ next (a ++ b ++ c ++ d ++ e ++ f ++ g) z o0 24 31 n7 (omega (arith, lz)) in
    let n8 : length (a ++ b ++ c ++ d ++ e ++ f ++ g ++ z) ≡ 31 = omega (arith, n7, lz, length-append (a ++ b ++ c ++ d ++ e ++ f ++ g) z) in
    let e9 : o9 ≡ (a ++ b ++ c ++ d ++ e ++ f ++ g ++ z ++ h) ++ drop 32 o0 = w9 ∙ ap (λ l. overwritten 31 h l) e8 ∙ next (a ++ b ++ c ++ d ++ e ++ f ++ g ++ z) h o0 31 32 n8 (omega (arith, lh)) in
    let n9 : length (a ++ b ++ c ++ d ++ e ++ f ++ g ++ z ++ h) ≡ 32 = omega (arith, n8, lh, length-append (a ++ b ++ c ++ d ++ e ++ f ++ g ++ z) h) in
    let last : 32 ≡ 0 + length (a ++ b ++ c ++ d ++ e ++ f ++ g ++ z ++ h) = omega (arith, n9) in
    e9 ∙ ap (λ k. (a ++ b ++ c ++ d ++ e ++ f ++ g ++ z ++ h) ++ drop k o0) last

pub frame_written : (head body zeros o0 o1 o2 o3 : List ℕ) (end : ℕ) → length head ≡ 32 → end ≡ 32 + length body → length o0 ≡ end + length zeros
    → o1 ≡ overwritten 0 head o0 → o2 ≡ overwritten 32 body o1 → o3 ≡ overwritten end zeros o2 → o3 ≡ head ++ body ++ zeros
frame_written head body zeros o0 o1 o2 o3 end lh le lo w1 w2 w3 =
    let e1 : o1 ≡ head ++ drop 32 o0 = w1 ∙ next [] head o0 0 32 refl (omega (arith, lh)) in
    let e2 : o2 ≡ (head ++ body) ++ drop end o0 = w2 ∙ ap (λ l. overwritten 32 body l) e1 ∙ next head body o0 32 end lh (sym le) in
    let n2 : length (head ++ body) ≡ end = omega (arith, lh, le, length-append head body) in
    let e3 : o3 ≡ ((head ++ body) ++ zeros) ++ drop (length o0) o0 = w3 ∙ ap (λ l. overwritten end zeros l) e2 ∙ next (head ++ body) zeros o0 end (length o0) n2 (sym lo) in
    e3 ∙ ap (λ l. ((head ++ body) ++ zeros) ++ l) (drop_all (length o0) o0 (omega arith)) ∙ append-nil ((head ++ body) ++ zeros)

-- the first zeros of 32
pub zeros_taken : (k n : ℕ) → k ≡ n → n ≤ 32 → take k (replicate {A = ℕ} 32 0) ≡ replicate {A = ℕ} n 0
zeros_taken k n same small = take-replicate {X = ℕ} k 32 0 (omega (arith, same)) ∙ ap (λ m. replicate {A = ℕ} m 0) same

pub zeros_length : (n : ℕ) → length (replicate {A = ℕ} n 0) ≡ n
zeros_length n = length-replicate {A = ℕ} n 0
