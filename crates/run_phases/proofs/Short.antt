-- A log that ends before the first entry that is not consumed is as good as a longer one.
use Rattle.std.proofs.Common.{◌≡◌, inl, inr, ℕ, ◌≤◌, ◌<◌, pos, List, [], ◌∷◌, length, take, drop, sym, ap, ◌∙◌, arith}
use Rattle.std.specs.Prelude.{replicate}
use Rattle.std.proofs.lemmas.Bool.{cases_lt}
use Rattle.std.proofs.lemmas.List.{length-drop, length-replicate, length-take, nil_from_length}
use Rattle.std.proofs.Math.ListN.{drop_of_length-le}
use Rattle.cl_base.specs.declared.entry.Entry.{Entry}
use Rattle.service_container.specs.Held.{Held}
use Rattle.service_phases.specs.Pairs.{Each, Each2}
use Rattle.service_phases.specs.Phases.{HasAll, IsAt, IsWithin}
use Rattle.run_phases.specs.Grown.{Grew}
use Rattle.run_phases.proofs.Lists.{each_weaker}

-- so many entries
blanks : ℕ → List Entry
blanks n = replicate n (record { term = pos 0; bytes = [] })

blanks_length : (n : ℕ) → length (blanks n) ≡ n
unfolding blanks
blanks_length n = length-replicate n (record { term = pos 0; bytes = [] })

-- a container that stands behind the log has consumed nothing of it
consumed_none : (n commit : ℕ) (log : List Entry) (c : Held) → length log < n → IsAt n c → IsWithin log commit c → (c.base ≡ n) × (length c.inputs ≡ 0)
consumed_none n commit log c short at w =
    let place = at.place in
    let many = ap length w.inputs in
    let taken = length-take (length c.inputs) (drop c.base log) in
    let left = length-drop c.base log in
    (omega arith, omega arith)

within_blanks : (n commit : ℕ) (log : List Entry) (c : Held) → length log < n → IsAt n c → IsWithin log commit c → IsWithin (blanks n) commit c
within_blanks n commit log c short at w =
    let none = (consumed_none n commit log c short at w).1 in
    record { inputs = nil_from_length c.inputs none ∙ sym (ap (λ k. take k (drop c.base (blanks n))) none); due = w.due }

within_back : (n commit : ℕ) (log : List Entry) (c d : Held) → length log < n → IsAt n c → IsWithin log commit c → d.base ≡ c.base → IsWithin (blanks n) commit d → IsWithin log commit d
within_back n commit log c d short at w base h =
    let begins = (consumed_none n commit log c short at w).0 in
    let long = blanks_length n in
    let ended : drop d.base (blanks n) ≡ [] = drop_of_length-le (blanks n) (omega arith) in
    let here : drop d.base log ≡ [] = drop_of_length-le log (omega arith) in
    record { inputs = h.inputs ∙ ap (take (length d.inputs)) (ended ∙ sym here); due = h.due }

all_blanks : (n commit : ℕ) (log : List Entry) (cs : List Held) → length log < n → Each (IsAt n) cs → Each (IsWithin log commit) cs → Each (IsWithin (blanks n) commit) cs
all_blanks n commit log [] short at w = tt
all_blanks n commit log (c ∷ cs) short at w = (within_blanks n commit log c short at.0 w.0, all_blanks n commit log cs short at.1 w.1)

all_back : (n commit : ℕ) (log : List Entry) (cs ds : List Held) → length log < n → Each (IsAt n) cs → Each (IsWithin log commit) cs → Each2 Grew cs ds → Each (IsWithin (blanks n) commit) ds → Each (IsWithin log commit) ds
all_back n commit log [] [] short at w g h = tt
all_back n commit log [] (d ∷ ds) short at w g h = absurd g
all_back n commit log (c ∷ cs) [] short at w g h = absurd g
all_back n commit log (c ∷ cs) (d ∷ ds) short at w g h = (within_back n commit log c d short at.0 w.0 g.0.applies.base h.0, all_back n commit log cs ds short at.1 w.1 g.1 h.1)

has_back : (log long : List Entry) (commit : ℕ) (ds : List Held) → Each (IsWithin log commit) ds → Each (HasAll long commit) ds → Each (HasAll log commit) ds
has_back log long commit [] w h = tt
has_back log long commit (d ∷ ds) w h = (record { within = w.0; all = h.0.all; whole = h.0.whole }, has_back log long commit ds w.1 h.1)

short_ahead : (n : ℕ) (ahead log : List Entry) → ahead ≡ drop n log → length log < n → ahead ≡ drop n (blanks n)
short_ahead n ahead log is short =
    let long = blanks_length n in
    is ∙ drop_of_length-le log (omega arith) ∙ sym (drop_of_length-le (blanks n) (omega arith))

-- what is so of each log that reaches to the place from which the entries ahead stand is so of any
pub any_within : (n commit : ℕ) (ahead log : List Entry) (cs ds : List Held) → Each (IsAt n) cs → Each2 Grew cs ds
    → ((long : List Entry) → ahead ≡ drop n long → n ≤ length long → Each (IsWithin long commit) cs → Each (IsWithin long commit) ds)
    → ahead ≡ drop n log → Each (IsWithin log commit) cs → Each (IsWithin log commit) ds
any_within n commit ahead log cs ds at grew f is w =
    elim (cases_lt (length log) n) as (λ _. Each (IsWithin log commit) ds) [
      | inl short ↦ all_back n commit log cs ds short at w grew (f (blanks n) (short_ahead n ahead log is short) (omega (arith, blanks_length n)) (all_blanks n commit log cs short at w))
      | inr there ↦ f log is there w
    ]

pub any_all : (n commit : ℕ) (ahead log : List Entry) (cs ds : List Held) → Each (IsAt n) cs → Each2 Grew cs ds
    → ((long : List Entry) → ahead ≡ drop n long → n ≤ length long → Each (IsWithin long commit) cs → Each (HasAll long commit) ds)
    → ahead ≡ drop n log → Each (IsWithin log commit) cs → Each (HasAll log commit) ds
any_all n commit ahead log cs ds at grew f is w =
    elim (cases_lt (length log) n) as (λ _. Each (HasAll log commit) ds) [
      | inl short ↦
          let h = f (blanks n) (short_ahead n ahead log is short) (omega (arith, blanks_length n)) (all_blanks n commit log cs short at w) in
          has_back log (blanks n) commit ds (all_back n commit log cs ds short at w grew (each_weaker (HasAll (blanks n) commit) (IsWithin (blanks n) commit) (λ d k. k.within) ds h)) h
      | inr there ↦ f log is there w
    ]
