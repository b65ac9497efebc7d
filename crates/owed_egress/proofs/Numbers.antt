-- Records are numbered one after the other.
use Rattle.std.proofs.Common.{◌≡◌, ℕ, suc, ◌+◌, ◌-◌, zero-add, length-append, List, [], ◌∷◌, ◌++◌, length, map, Option, Some, None, refl, sym, ap, ◌∙◌, arith, append_assoc}
use Rattle.std.specs.Prelude.{option_to_list}
use Rattle.egress.specs.declared.sent.Sent.{Sent}
use Rattle.sbe_events.specs.declared.event.Event.{Event}
use Rattle.service_api.specs.declared.output.Output.{Output}
use Rattle.service_api.specs.declared.output.Output.TheVariants as outputs
use Rattle.module_state.specs.declared.output.ModuleOutput.{ModuleOutput}
use Rattle.module_state.specs.Module.{Module}
use Rattle.module_state.specs.Owed.{Sending, owed_by_outputs}
use Rattle.module_state.specs.Outputs.{output_of, outputs_of}
use Rattle.owed_egress.specs.Records.{numbered, output_in, owed_by_one, owed_outputs}

abbrev some_output : ModuleOutput → Option ModuleOutput
some_output x = Some x

pub numbered_append : (i : ℕ) (s : Option ℕ) (n : ℕ) (xs ys : List ModuleOutput) → numbered i s n (xs ++ ys) ≡ numbered i s n xs ++ numbered i s (n + length xs) ys
numbered_append i s n [] ys = ap (λ k. numbered i s k ys) (omega arith)
numbered_append i s n (x ∷ xs) ys =
    ap (λ r. record { stream = x.stream; entry = Some i; service = s; number = n; bytes = x.bytes } ∷ r)
    (numbered_append i s (n + 1) xs ys ∙ ap (λ k. numbered i s (n + 1) xs ++ numbered i s k ys) (omega arith))

map_append : {X Y : Type 0} (f : X → Y) (xs ys : List X) → map f (xs ++ ys) ≡ map f xs ++ map f ys
map_append f [] ys = refl
map_append f (x ∷ xs) ys = ap (λ r. f x ∷ r) (map_append f xs ys)

owed_more : (m : Module) (e : Event) (o : Output) (rest : List Output) → owed_by_outputs m e (o ∷ rest) ≡ owed_by_one m e o ++ owed_by_outputs m e rest
owed_more m e (outputs.Egress session payload) rest = refl
owed_more m e (outputs.Command c) rest = refl

pub owed_first : (m : Module) (e : Event) (o : ℕ × Output) (rest : List (ℕ × Output)) → owed_outputs m e (o ∷ rest) ≡ outputs_of (owed_by_one m e o.1) ++ owed_outputs m e rest
owed_first m e o rest = ap outputs_of (owed_more m e o.1 (map output_in rest)) ∙ map_append output_of (owed_by_one m e o.1) (owed_by_outputs m e (map output_in rest))

pub length-numbered : (i : ℕ) (s : Option ℕ) (n : ℕ) (os : List ModuleOutput) → length (numbered i s n os) ≡ length os
length-numbered i s n [] = refl
length-numbered i s n (o ∷ os) = ap (λ k. suc k) (length-numbered i s (n + 1) os)

-- one more record, numbered by how many there are
pub one_more : (first now : List Sent) (i : ℕ) (s : Option ℕ) (os : List ModuleOutput) (o : ModuleOutput) → now ≡ first ++ numbered i s 0 os
    → now ++ record { stream = o.stream; entry = Some i; service = s; number = length now - length first; bytes = o.bytes } ∷ [] ≡ first ++ numbered i s 0 (os ++ o ∷ [])
one_more first now i s os o h =
    let many : length now - length first ≡ 0 + length os = ap (λ l. length l - length first) h ∙ sub_length first (numbered i s 0 os) ∙ length-numbered i s 0 os ∙ sym (zero-add (length os)) in
    ap (λ k. now ++ record { stream = o.stream; entry = Some i; service = s; number = k; bytes = o.bytes } ∷ []) many
    ∙ ap (λ l. l ++ numbered i s (0 + length os) (o ∷ [])) h
    ∙ append_assoc first (numbered i s 0 os) (numbered i s (0 + length os) (o ∷ []))
    ∙ ap (λ r. first ++ r) (sym (numbered_append i s 0 os (o ∷ []))) where
      sub_length : (xs ys : List Sent) → length (xs ++ ys) - length xs ≡ length ys
      sub_length xs ys = let e = length-append xs ys in omega arith

-- an output that owes something, and one that owes nothing
pub from_some : (i : ℕ) (s : Option ℕ) (n : ℕ) (m : Module) (e : Event) (o : ℕ × Output) (rest : List (ℕ × Output)) (x : ModuleOutput)
    → option_to_list (some_output x) ≡ outputs_of (owed_by_one m e o.1)
    → numbered i s n (owed_outputs m e (o ∷ rest)) ≡ record { stream = x.stream; entry = Some i; service = s; number = n; bytes = x.bytes } ∷ numbered i s (n + 1) (owed_outputs m e rest)
from_some i s n m e o rest x h = ap (numbered i s n) (owed_first m e o rest ∙ ap (λ l. l ++ owed_outputs m e rest) (sym h))

pub from_none : (i : ℕ) (s : Option ℕ) (n : ℕ) (m : Module) (e : Event) (o : ℕ × Output) (rest : List (ℕ × Output))
    → [] ≡ outputs_of (owed_by_one m e o.1) → numbered i s n (owed_outputs m e (o ∷ rest)) ≡ numbered i s n (owed_outputs m e rest)
from_none i s n m e o rest h = ap (numbered i s n) (owed_first m e o rest ∙ ap (λ l. l ++ owed_outputs m e rest) (sym h))
