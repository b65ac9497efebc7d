-- Consuming in two stretches. A poll that took one entry, and a poll that took none.
use Rattle.std.proofs.Common.{◌≡◌, ℕ, suc, ◌+◌, true, List, [], ◌∷◌, ◌++◌, length, append-nil, append_assoc, refl, sym, ◌∙◌, ap, arith}
use Rattle.std.proofs.lemmas.List.{length-append}
use Rattle.cl_base.specs.declared.entry.Entry.{Entry}
use Rattle.service_api.specs.declared.shipped.Shipped.{Shipped}
use Rattle.service_api.specs.Service.{at_entry, state_from, numbered, outbox_from}
use Rattle.service_api.specs.ServiceLaws.{state_twice, outbox_twice}
use Rattle.commit_counter.specs.Ends.{Polled, taken_to}
use Rattle.service_container.specs.Records.{left_at, records_from}
use Rattle.service_container.specs.Held.{Held, consumed_to, Applies, Consumes}

further : (i n : ℕ) → i + 1 + n ≡ i + suc n
further i n = omega arith

-- what both stretches leave
records_twice : (s : Shipped) (i : ℕ) (xs ys : List Entry) → records_from s i (xs ++ ys) ≡ records_from s i xs ++ records_from (state_from s i xs) (i + length xs) ys
records_twice s i [] ys = ap (λ k. records_from s k ys) (omega arith)
records_twice s i (x ∷ xs) ys =
    ap (λ l. left_at i x (at_entry s i x).0 ++ l)
    (records_twice (at_entry s i x).0 (i + 1) xs ys
    ∙ ap (λ k. records_from (at_entry s i x).0 (i + 1) xs ++ records_from (state_from s i (x ∷ xs)) k ys) (further i (length xs)))
    ∙ sym (append_assoc (left_at i x (at_entry s i x).0) (records_from (at_entry s i x).0 (i + 1) xs) (records_from (state_from s i (x ∷ xs)) (i + length (x ∷ xs)) ys))

-- what is applied in two stretches is applied in one
pub applies_twice : (c d e : Held) (xs ys : List Entry) → d.whole ≡ true → Applies c d xs → Applies d e ys → Applies c e (xs ++ ys)
applies_twice c d e xs ys whole h k =
    let to : consumed_to d ≡ consumed_to c + length xs = omega (arith, h.base, ap length h.inputs, length-append c.inputs xs) in
    let at : (state : Shipped) → state ≡ state_from c.state (consumed_to c) xs → state_from state (consumed_to d) ys ≡ state_from c.state (consumed_to c) (xs ++ ys) =
    λ state is. (λ i. state_from (is i) (to i) ys) ∙ sym (state_twice c.state (consumed_to c) xs ys) in
    let out : outbox_from d.state (consumed_to d) ys ≡ outbox_from (state_from c.state (consumed_to c) xs) (consumed_to c + length xs) ys = λ i. outbox_from (h.state whole i) (to i) ys in
    let left : records_from d.state (consumed_to d) ys ≡ records_from (state_from c.state (consumed_to c) xs) (consumed_to c + length xs) ys = λ i. records_from (h.state whole i) (to i) ys in
    record {
      service = k.service ∙ h.service;
      base = k.base ∙ h.base;
      inputs = k.inputs ∙ ap (λ l. l ++ ys) h.inputs ∙ append_assoc c.inputs xs ys;
      state = λ w. k.state w ∙ at d.state (h.state whole);
      outbox = λ w.
          k.outbox w ∙ (λ i. h.outbox whole i ++ out i)
          ∙ append_assoc c.outbox (outbox_from c.state (consumed_to c) xs) (outbox_from (state_from c.state (consumed_to c) xs) (consumed_to c + length xs) ys)
          ∙ ap (λ l. c.outbox ++ l) (sym (outbox_twice c.state (consumed_to c) xs ys));
      records = λ w.
          k.records w ∙ (λ i. h.records whole i ++ left i)
          ∙ append_assoc c.records (records_from c.state (consumed_to c) xs) (records_from (state_from c.state (consumed_to c) xs) (consumed_to c + length xs) ys)
          ∙ ap (λ l. c.records ++ l) (sym (records_twice c.state (consumed_to c) xs ys));
    }

pub consumes_twice : (c : Held) (p : Polled) (d : Held) (q : Polled) (e : Held) (r : Polled) → d.whole ≡ true → Consumes c p d q → Consumes d q e r → Consumes c p e r
consumes_twice c p d q e r whole h k = (
  h.0 ++ k.0,
  applies_twice c d e h.0 k.0 whole h.1 k.1,
  record {
    name = k.2.name ∙ h.2.name;
    start = k.2.start ∙ h.2.start;
    list = k.2.list ∙ ap (λ l. l ++ k.0) h.2.list ∙ append_assoc p.list h.0 k.0;
  },
)

-- nothing was taken
pub consumes_none : (c : Held) (p q : Polled) → q.name ≡ p.name → q.start ≡ p.start → q.list ≡ p.list → Consumes c p c q
consumes_none c p q name start list = (
  [],
  record {
    service = refl;
    base = refl;
    inputs = sym (append-nil c.inputs);
    state = λ _. refl;
    outbox = λ _. sym (append-nil c.outbox);
    records = λ _. sym (append-nil c.records);
  },
  record { name = name; start = start; list = list ∙ sym (append-nil p.list) },
)

-- one entry was taken, at its index
pub consumes_one : (c d : Held) (p q : Polled) (i : ℕ) (x : Entry) → i ≡ taken_to p → taken_to p ≡ consumed_to c
    → q.name ≡ p.name → q.start ≡ p.start → q.list ≡ p.list ++ x ∷ []
    → d.service ≡ c.service → d.base ≡ c.base → d.inputs ≡ c.inputs ++ x ∷ []
    → (d.whole ≡ true → d.state ≡ (at_entry c.state i x).0)
    → (d.whole ≡ true → d.outbox ≡ c.outbox ++ numbered i (at_entry c.state i x).1)
    → (d.whole ≡ true → d.records ≡ c.records ++ left_at i x d.state)
    → Consumes c p d q
consumes_one c d p q i x at place name start list service base inputs state outbox records =
    let to : i ≡ consumed_to c = at ∙ place in (
      x ∷ [],
      record {
        service = service;
        base = base;
        inputs = inputs;
        state = λ w. state w ∙ ap (λ k. (at_entry c.state k x).0) to;
        outbox = λ w. outbox w ∙ ap (λ k. c.outbox ++ numbered k (at_entry c.state k x).1) to ∙ ap (λ l. c.outbox ++ l) (sym (append-nil (numbered (consumed_to c) (at_entry c.state (consumed_to c) x).1)));
        records = λ w.
            records w ∙ (λ j. c.records ++ left_at (to j) x ((state w ∙ ap (λ k. (at_entry c.state k x).0) to) j))
            ∙ ap (λ l. c.records ++ l) (sym (append-nil (left_at (consumed_to c) x (at_entry c.state (consumed_to c) x).0)));
      },
      record { name = name; start = start; list = list },
    )

-- the next index to poll is the next one to consume
pub place_kept : (c : Held) (p : Polled) (d : Held) (q : Polled) → taken_to p ≡ consumed_to c → Consumes c p d q → taken_to q ≡ consumed_to d
place_kept c p d q at h =
    omega (
      arith,
      h.1.base,
      h.2.start,
      ap length h.1.inputs,
      ap length h.2.list,
      length-append c.inputs h.0,
      length-append p.list h.0,
    )
