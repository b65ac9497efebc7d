-- What an entry's bytes spell.
use Rattle.std.proofs.Common.{◌≡◌, ℕ, ℤ, ◌+◌, ◌<◌, ◌≤◌, ◌^◌, List, length, get_or, replicate, ◌∙◌, inl, arith, w32, w64}
use Rattle.std.specs.Int.RustNames.{FitsSigned}
use Rattle.cl_base.specs.Disk.{overwritten}
use Rattle.cl_base.specs.Images.{length-overwritten, overwritten_other}
use Rattle.wire_prims.specs.Fields.{i64_at, signed64, signed32, le32, length-signed64, length-signed32, i64_at-same, i32_at-same, u32_at-same, i64_at-overwritten, i32_at-overwritten, u32_at-overwritten}
use Rattle.recording_log.specs.Entries.{entry_of}

-- two entries whose first 48 bytes agree
pub entry_same : (c e : List ℕ) → ((k : ℕ) → k < 48 → get_or c k 0 ≡ get_or e k 0) → entry_of c ≡ entry_of e
entry_same c e same =
    let e0 = i64_at-same 0 c e (λ i from below. same i (omega arith)) in
    let e1 = i64_at-same 8 c e (λ i from below. same i (omega arith)) in
    let e2 = i64_at-same 16 c e (λ i from below. same i (omega arith)) in
    let e3 = i64_at-same 24 c e (λ i from below. same i (omega arith)) in
    let e4 = i64_at-same 32 c e (λ i from below. same i (omega arith)) in
    let e5 = i32_at-same 40 c e (λ i from below. same i (omega arith)) in
    let e6 = u32_at-same 44 c e (λ i from below. same i (omega arith)) in
    λ x. record { recording = e0 x; term = e1 x; base = e2 x; position = e3 x; stamp = e4 x; service = e5 x; kind = e6 x }

-- two files agree below a place
abbrev Agree : ℕ → List ℕ → List ℕ → Type 0
Agree n c e = (i : ℕ) → i < n → get_or c i 0 ≡ get_or e i 0

module _ (r t b p s v : ℤ) (n : ℕ) (fr : FitsSigned w64 r) (ft : FitsSigned w64 t) (fb : FitsSigned w64 b) (fp : FitsSigned w64 p) (fs : FitsSigned w64 s) (fv : FitsSigned w32 v) (fn : n < 2 ^ 32) where
  abbrev f0 : List ℕ
  f0 = replicate 63 0

  abbrev f1 : List ℕ
  f1 = overwritten 0 (signed64 r) f0

  abbrev f2 : List ℕ
  f2 = overwritten 8 (signed64 t) f1

  abbrev f3 : List ℕ
  f3 = overwritten 16 (signed64 b) f2

  abbrev f4 : List ℕ
  f4 = overwritten 24 (signed64 p) f3

  abbrev f5 : List ℕ
  f5 = overwritten 32 (signed64 s) f4

  abbrev f6 : List ℕ
  f6 = overwritten 40 (signed32 v) f5

  abbrev pub block : List ℕ
  block = overwritten 44 (le32 n) f6

  l1 : length f1 ≡ 63
  l1 = omega (arith, length-signed64 r, length-overwritten 0 (signed64 r) f0 (omega arith))

  l2 : length f2 ≡ 63
  l2 = omega (arith, l1, length-signed64 t, length-overwritten 8 (signed64 t) f1 (omega (arith, l1)))

  l3 : length f3 ≡ 63
  l3 = omega (arith, l2, length-signed64 b, length-overwritten 16 (signed64 b) f2 (omega (arith, l2)))

  l4 : length f4 ≡ 63
  l4 = omega (arith, l3, length-signed64 p, length-overwritten 24 (signed64 p) f3 (omega (arith, l3)))

  l5 : length f5 ≡ 63
  l5 = omega (arith, l4, length-signed64 s, length-overwritten 32 (signed64 s) f4 (omega (arith, l4)))

  l6 : length f6 ≡ 63
  l6 = omega (arith, l5, length-signed32 v, length-overwritten 40 (signed32 v) f5 (omega (arith, l5)))

  a6 : Agree 44 block f6
  a6 i below = overwritten_other 44 (le32 n) f6 i (omega (arith, l6)) (inl below)

  a5 : Agree 40 block f5
  a5 i below = a6 i (omega arith) ∙ overwritten_other 40 (signed32 v) f5 i (omega (arith, l5)) (inl below)

  a4 : Agree 32 block f4
  a4 i below = a5 i (omega arith) ∙ overwritten_other 32 (signed64 s) f4 i (omega (arith, l4)) (inl below)

  a3 : Agree 24 block f3
  a3 i below = a4 i (omega arith) ∙ overwritten_other 24 (signed64 p) f3 i (omega (arith, l3)) (inl below)

  a2 : Agree 16 block f2
  a2 i below = a3 i (omega arith) ∙ overwritten_other 16 (signed64 b) f2 i (omega (arith, l2)) (inl below)

  a1 : Agree 8 block f1
  a1 i below = a2 i (omega arith) ∙ overwritten_other 8 (signed64 t) f1 i (omega (arith, l1)) (inl below)

  word : (at end : ℕ) (z : ℤ) (f : List ℕ) → at + 8 ≤ end → Agree end block f → i64_at at f ≡ z → i64_at at block ≡ z
  word at end z f fits agree is = i64_at-same at block f (λ i from below. agree i (omega arith)) ∙ is

  pub spelled : entry_of block ≡ record { recording = r; term = t; base = b; position = p; stamp = s; service = v; kind = n }
  spelled =
      let e0 = word 0 8 r f1 (omega arith) a1 (i64_at-overwritten 0 r f0 fr (omega arith)) in
      let e1 = word 8 16 t f2 (omega arith) a2 (i64_at-overwritten 8 t f1 ft (omega (arith, l1))) in
      let e2 = word 16 24 b f3 (omega arith) a3 (i64_at-overwritten 16 b f2 fb (omega (arith, l2))) in
      let e3 = word 24 32 p f4 (omega arith) a4 (i64_at-overwritten 24 p f3 fp (omega (arith, l3))) in
      let e4 = word 32 40 s f5 (omega arith) a5 (i64_at-overwritten 32 s f4 fs (omega (arith, l4))) in
      let e5 = i32_at-same 40 block f6 (λ i from below. a6 i (omega arith)) ∙ i32_at-overwritten 40 v f5 fv (omega (arith, l5)) in
      let e6 = u32_at-overwritten 44 n f6 fn (omega (arith, l6)) in
      λ x. record { recording = e0 x; term = e1 x; base = e2 x; position = e3 x; stamp = e4 x; service = e5 x; kind = e6 x }
