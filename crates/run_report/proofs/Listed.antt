-- Lists of lines, one line more.
use Rattle.std.proofs.Common.{◌≡◌, ◌≢◌, ℕ, ℤ, zero, suc, ◌+◌, ◌<◌, List, [], ◌∷◌, ◌++◌, length, take, drop, get_or, refl, sym, ap, ◌∙◌, arith, append_assoc, append-nil, add-one, add-zero, take-append-drop}
use Rattle.std.specs.List.{flat_map}
use Rattle.std.proofs.lemmas.Grind.{flat_map-append}
use denote.Ref.{Bor}
use Rattle.cl_base.specs.declared.entry.Entry.{Entry}
use Rattle.egress.specs.declared.sent.Sent.{Sent}
use Rattle.recording_log.specs.declared.entry.SnapshotAt.{SnapshotAt}
use Rattle.cluster_client.specs.declared.runs.Got.{Got}
use Rattle.run_report.specs.declared.line.EntryKind.{EntryKind}
use Rattle.run_report.specs.declared.line.Line.TheVariants as line
use Rattle.run_report.specs.Text.{line_text, entry_line, entry_lines, record_line, record_lines, got_line, set_line, stream_text}

one_more : (kind : EntryKind) (e : Entry) (n : ℕ) (es : List Entry) (i : ℕ) → n < length es → e ≡ get_or es n e → entry_lines kind i (take (suc n) es) ≡ entry_lines kind i (take n es) ++ entry_line kind (i + n) e
one_more kind e n [] i b h = absurd (omega arith)
one_more kind e zero (x ∷ es) i b h =
    let same : i ≡ i + 0 = omega arith in
    append-nil (entry_line kind i x) ∙ ap (λ y. entry_line kind i y) (sym h) ∙ ap (λ k. entry_line kind k e) same
one_more kind e (suc n) (x ∷ es) i b h =
    let moved : suc i + n ≡ i + suc n = omega arith in
    ap (λ ys. entry_line kind i x ++ ys) (one_more kind e n es (suc i) (omega arith) h)
    ∙ sym (append_assoc (entry_line kind i x) (entry_lines kind (suc i) (take n es)) (entry_line kind (suc i + n) e))
    ∙ ap (λ k. (entry_line kind i x ++ entry_lines kind (suc i) (take n es)) ++ entry_line kind k e) moved

-- one entry more
pub entries_more : (kind : EntryKind) (i n : ℕ) (es : List Entry) (e : Entry) → n < length es → e ≡ get_or es n e → entry_lines kind i (take (n + 1) es) ≡ entry_lines kind i (take n es) ++ entry_line kind (i + n) e
entries_more kind i n es e b h = rw add-one (one_more kind e n es i b h)

-- entries up to a place, and those behind it
pub entries_cut : (kind : EntryKind) (i n : ℕ) (es : List Entry) → entry_lines kind i (take n es) ++ entry_lines kind (i + n) (drop n es) ≡ entry_lines kind i es
entries_cut kind i zero [] = refl
entries_cut kind i zero (x ∷ es) = ap (λ k. [] ++ entry_lines kind k (x ∷ es)) (add-zero i)
entries_cut kind i (suc n) [] = refl
entries_cut kind i (suc n) (x ∷ es) =
    let moved : i + suc n ≡ suc i + n = omega arith in
    append_assoc (entry_line kind i x) (entry_lines kind (suc i) (take n es)) (entry_lines kind (i + suc n) (drop n es))
    ∙ ap (λ k. entry_line kind i x ++ (entry_lines kind (suc i) (take n es) ++ entry_lines kind k (drop n es))) moved
    ∙ ap (λ ys. entry_line kind i x ++ ys) (entries_cut kind (suc i) n es)

-- an entry's line
pub entry_is : (kind : EntryKind) (i : ℕ) (e : Bor Entry) → line_text (line.Entry kind i e) ≡ entry_line kind i e.now
unfolding line_text
entry_is kind i e = refl

pub record_is : (s : Bor Sent) → line_text (line.Record s) ≡ record_line s.now
unfolding line_text
record_is s = refl

pub got_is : (g : Bor Got) → line_text (line.Got g) ≡ got_line g.now
unfolding line_text
got_is g = refl

pub set_is : (s : Bor SnapshotAt) → line_text (line.Set s) ≡ set_line s.now
unfolding line_text
set_is s = refl

module _ {X : Type 0} (f : X → List ℕ) where
  -- lines of a list, one more
  pub lines_more : (n : ℕ) (xs : List X) (x : X) → n < length xs → x ≡ get_or xs n x → flat_map f (take (n + 1) xs) ≡ flat_map f (take n xs) ++ f x
  lines_more n xs x b h = rw (add-one) (by n xs b h)
    where
      by : (n : ℕ) (xs : List X) → n < length xs → x ≡ get_or xs n x → flat_map f (take (suc n) xs) ≡ flat_map f (take n xs) ++ f x
      by n [] b h = absurd (omega arith)
      by zero (y ∷ xs) b h = append-nil (f y) ∙ ap f (sym h)
      by (suc n) (y ∷ xs) b h = ap (λ ys. f y ++ ys) (by n xs (omega arith) h) ∙ sym (append_assoc (f y) (flat_map f (take n xs)) (f x))

  -- the same, where the one more is read by its place
  pub lines_more_at : (n : ℕ) (xs : List X) (d : X) → n < length xs → flat_map f (take (n + 1) xs) ≡ flat_map f (take n xs) ++ f (get_or xs n d)
  lines_more_at n xs d b = rw add-one (by n xs b)
    where
      by : (n : ℕ) (xs : List X) → n < length xs → flat_map f (take (suc n) xs) ≡ flat_map f (take n xs) ++ f (get_or xs n d)
      by n [] b = absurd (omega arith)
      by zero (y ∷ xs) b = append-nil (f y)
      by (suc n) (y ∷ xs) b = ap (λ ys. f y ++ ys) (by n xs (omega arith)) ∙ sym (append_assoc (f y) (flat_map f (take n xs)) (f (get_or xs n d)))

  -- and those behind them
  pub lines_cut : (n : ℕ) (xs : List X) → flat_map f (take n xs) ++ flat_map f (drop n xs) ≡ flat_map f xs
  lines_cut n xs = sym (flat_map-append f (take n xs) (drop n xs)) ∙ ap (flat_map f) (take-append-drop n xs)

-- a stream without a record has no text
pub stream_none : (stream : ℤ) (sent : List Sent) → length sent ≡ 0 → stream_text stream sent ≡ []
stream_none stream [] e = refl
stream_none stream (s ∷ sent) e = absurd (omega arith)

pub stream_some : (stream : ℤ) (sent : List Sent) → length sent ≢ 0 → line_text (line.Stream stream (length sent)) ++ record_lines sent ≡ stream_text stream sent
stream_some stream [] e = absurd (e refl)
stream_some stream (s ∷ sent) e = refl
