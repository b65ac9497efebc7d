-- What is written is read again.
use Rattle.std.proofs.Common.{◌≡◌, ℕ, ◌+◌, ◌<◌, ◌≤◌, ◌^◌, ℤ, pos, List, [], ◌∷◌, ◌++◌, length, take, drop, FitsSigned, w32, w64, refl, sym, ap, ◌∙◌, subst, arith, append_assoc}
use Rattle.std.proofs.lemmas.List.{append-nil, take_at, drop_at, length-append}
use Rattle.wire_prims.specs.Fields.{u32_at, i64_at, le32, length-le32, u32_at-put}
use Rattle.wire_prims.specs.Strict.{message, counted, block_size}
use Rattle.wire_prims.specs.StrictLaws.{AllFit, IsHeaded, is_headed, length-message}
use Rattle.wire_prims.specs.declared.strict.Field.{Field}
use Rattle.wire_prims.specs.declared.strict.Field.TheVariants.{I64, I32}
use Rattle.sbe_client.specs.declared.ingress.Ingress.{Ingress}
use Rattle.sbe_client.specs.declared.ingress.Ingress.TheVariants as ingress
use Rattle.sbe_client.specs.declared.egress.Egress.{Egress}
use Rattle.sbe_client.specs.declared.egress.Egress.TheVariants as egress
use Rattle.sbe_client.specs.Spelling.{ingress_spelling_of, HasIngressSpelling, IngressFits, egress_spelling_of, HasEgressSpelling, EgressFits}
use Rattle.sbe_client.specs.Reading.{Opens, HasVariable, variable_at, variable_end, block_end, ReadsIngress, ReadsEgress}

fits32_small : (n : ℕ) → n ≤ 4 → FitsSigned w32 (pos n)
fits32_small n le = record { sfits = omega (arith, le) }

zero_fits64 : FitsSigned w64 (pos 0)
zero_fits64 = record { sfits = omega arith }

-- header and block of a message are there, whatever follows
opens : (template : ℕ) (fs : List Field) (rest : List ℕ) → block_size fs < 2 ^ 16 → IsHeaded template fs (message template fs ++ rest) → Opens template (block_size fs) (message template fs ++ rest)
opens template fs rest short headed =
    record {
      header_there = omega (arith, length-append (message template fs) rest, length-message template fs);
      schema = headed.schema;
      template_is = headed.template;
      long_enough = omega (arith, headed.block);
      block_there = omega (arith, headed.block, length-append (message template fs) rest, length-message template fs);
    }

-- behind the block stands what follows
behind : (template : ℕ) (fs : List Field) (rest : List ℕ) → IsHeaded template fs (message template fs ++ rest) → drop (block_end (message template fs ++ rest)) (message template fs ++ rest) ≡ rest
behind template fs rest headed = drop_at (message template fs) rest (block_end (message template fs ++ rest)) (omega (arith, headed.block, length-message template fs))

module _ (front field rest : List ℕ) (at : ℕ) (len : length front ≡ at) (short : length field < 2 ^ 32) where
  pub length_is : u32_at at (front ++ (counted field ++ rest)) ≡ length field
  length_is = ap (λ l. u32_at at (front ++ l)) (append_assoc (le32 (length field)) field rest) ∙ u32_at-put at (length field) front (field ++ rest) len short

  -- a counted field is there
  pub variable_there : HasVariable at (front ++ (counted field ++ rest))
  variable_there =
      record {
        length_there = omega (arith, length-append front (counted field ++ rest), length-append (counted field) rest, length-append (le32 (length field)) field, length-le32 (length field));
        all_there = omega (arith, length_is, length-append front (counted field ++ rest), length-append (counted field) rest, length-append (le32 (length field)) field, length-le32 (length field));
      }

  behind_length : drop (at + 4) (front ++ (counted field ++ rest)) ≡ field ++ rest
  behind_length =
      let regrouped : front ++ (counted field ++ rest) ≡ (front ++ le32 (length field)) ++ (field ++ rest) = ap (λ l. front ++ l) (append_assoc (le32 (length field)) field rest) ∙ sym (append_assoc front (le32 (length field)) (field ++ rest)) in
      ap (drop (at + 4)) regrouped ∙ drop_at (front ++ le32 (length field)) (field ++ rest) (at + 4) (omega (arith, length-append front (le32 (length field)), length-le32 (length field)))

  pub variable_is : variable_at at (front ++ (counted field ++ rest)) ≡ field
  variable_is = ap (λ n. take n (drop (at + 4) (front ++ (counted field ++ rest)))) length_is ∙ ap (take (length field)) behind_length ∙ take_at field rest (length field) refl

-- the same where nothing follows
last_there : (front field : List ℕ) (at : ℕ) → length front ≡ at → length field < 2 ^ 32 → HasVariable at (front ++ counted field)
last_there front field at len short = subst (λ l. HasVariable at (front ++ l)) (append-nil (counted field)) (variable_there front field [] at len short)

small_template : (t : ℕ) → t ≤ 6 → t < 2 ^ 16
small_template t le = omega arith

abbrev nothing : List ℕ
nothing = []

nothing_short : length nothing < 2 ^ 32
nothing_short = omega arith

abbrev pair : ℤ → ℤ → List Field
pair term session = I64 term ∷ I64 session ∷ []

-- a message that names a term and a session and nothing else
record OfSession (template : ℕ) (term session : ℤ) (bytes : List ℕ) : Type 0 where
  opens_it : Opens template 16 bytes
  term_is : term ≡ i64_at 8 bytes
  session_is : session ≡ i64_at 16 bytes

session_again : (t : ℕ) (term session : ℤ) → t ≤ 6 → FitsSigned w64 term → FitsSigned w64 session → OfSession t term session (message t (pair term session))
session_again t term session small f0 f1 =
    let headed = is_headed t (pair term session) [] (small_template t small) (omega arith) (f0, (f1, tt)) in
    let all : OfSession t term session (message t (pair term session) ++ []) = record {
      opens_it = opens t (pair term session) [] (omega arith) headed;
      term_is = sym headed.reads.0;
      session_is = sym headed.reads.1.0;
    } in
    subst (λ l. OfSession t term session l) (append-nil (message t (pair term session))) all

abbrev connect_fields : ℤ → ℤ → List Field
connect_fields corr stream = I64 corr ∷ I32 stream ∷ I32 (pos 0) ∷ []

module _ (corr stream : ℤ) (channel : List ℕ) (short : length channel < 2 ^ 32) (f0 : FitsSigned w64 corr) (f1 : FitsSigned w32 stream) where
  abbrev front : List ℕ
  front = message 3 (connect_fields corr stream)

  abbrev whole : List ℕ
  whole = front ++ (counted channel ++ counted [])

  headed : IsHeaded 3 (connect_fields corr stream) whole
  headed = is_headed 3 (connect_fields corr stream) (counted channel ++ counted []) (omega arith) (omega arith) (f0, (f1, (fits32_small 0 (omega arith), tt)))

  ends : length front ≡ block_end whole
  ends = omega (arith, headed.block, length-message 3 (connect_fields corr stream))

  first_there : HasVariable (block_end whole) whole
  first_there = variable_there front channel (counted []) (block_end whole) ends short

  second_there : HasVariable (variable_end (block_end whole) whole) whole
  second_there =
      let n : u32_at (block_end whole) whole ≡ length channel = length_is front channel (counted []) (block_end whole) ends short in
      let len : length (front ++ counted channel) ≡ variable_end (block_end whole) whole = omega (arith, n, ends, length-append front (counted channel), length-append (le32 (length channel)) channel, length-le32 (length channel)) in
      subst (λ l. HasVariable (variable_end (block_end whole) whole) l) (append_assoc front (counted channel) (counted [])) (last_there (front ++ counted channel) [] (variable_end (block_end whole) whole) len nothing_short)

  connect_again : ReadsIngress whole (ingress.Connect corr stream channel)
  connect_again = (
    opens 3 (connect_fields corr stream) (counted channel ++ counted []) (omega arith) headed,
    sym headed.reads.0,
    sym headed.reads.1.0,
    first_there,
    sym (variable_is front channel (counted []) (block_end whole) ends short),
    second_there,
  )

pub ingress_again : (m : Ingress) → HasIngressSpelling m → IngressFits m → ReadsIngress (ingress_spelling_of m) m
unfolding ingress_spelling_of
ingress_again (ingress.Message term session payload) has fits =
    let headed = is_headed 1 (I64 term ∷ I64 session ∷ I64 (pos 0) ∷ []) payload (omega arith) (omega arith) (fits.0, (fits.1, (zero_fits64, tt))) in (
      opens 1 (I64 term ∷ I64 session ∷ I64 (pos 0) ∷ []) payload (omega arith) headed,
      sym headed.reads.0,
      sym headed.reads.1.0,
      sym (behind 1 (I64 term ∷ I64 session ∷ I64 (pos 0) ∷ []) payload headed),
    )
ingress_again (ingress.Connect corr stream channel) has fits =
    subst (λ l. ReadsIngress l (ingress.Connect corr stream channel)) (sym (append_assoc (message 3 (connect_fields corr stream)) (counted channel) (counted []))) (connect_again corr stream channel has fits.0 fits.1)
ingress_again (ingress.Close term session) has fits =
    let all = session_again 4 term session (omega arith) fits.0 fits.1 in
    (all.opens_it, all.term_is, all.session_is)
ingress_again (ingress.KeepAlive term session) has fits =
    let all = session_again 5 term session (omega arith) fits.0 fits.1 in
    (all.opens_it, all.term_is, all.session_is)

-- a message whose only variable field is empty
record EndsEmpty (template : ℕ) (fs : List Field) (bytes : List ℕ) : Type 0 where
  headed : IsHeaded template fs bytes
  opens_it : Opens template (block_size fs) bytes
  there : HasVariable (block_end bytes) bytes

ends_empty : (template : ℕ) (fs : List Field) → template ≤ 6 → block_size fs < 2 ^ 16 → AllFit fs → EndsEmpty template fs (message template fs ++ counted [])
ends_empty template fs small short fits =
    let headed = is_headed template fs (counted []) (small_template template small) short fits in
    record {
      headed = headed;
      opens_it = opens template fs (counted []) short headed;
      there = last_there (message template fs) [] (block_end (message template fs ++ counted [])) (omega (arith, headed.block, length-message template fs)) nothing_short;
    }

pub egress_again : (m : Egress) → HasEgressSpelling m → EgressFits m → ReadsEgress (egress_spelling_of m) m
unfolding egress_spelling_of
egress_again (egress.Message term session stamp payload) has fits =
    let headed = is_headed 1 (I64 term ∷ I64 session ∷ I64 stamp ∷ []) payload (omega arith) (omega arith) (fits.0, (fits.1, (fits.2, tt))) in (
      opens 1 (I64 term ∷ I64 session ∷ I64 stamp ∷ []) payload (omega arith) headed,
      sym headed.reads.0,
      sym headed.reads.1.0,
      sym headed.reads.1.1.0,
      sym (behind 1 (I64 term ∷ I64 session ∷ I64 stamp ∷ []) payload headed),
    )
egress_again (egress.SessionEvent session corr term leader code) has fits =
    let all = ends_empty 2 (I64 session ∷ I64 corr ∷ I64 term ∷ I32 leader ∷ I32 (pos code) ∷ []) (omega arith) (omega arith) (fits.0, (fits.1, (fits.2, (fits.3, (fits32_small code has, tt))))) in
    let r = all.headed.reads in
    (all.opens_it, sym r.0, sym r.1.0, sym r.1.1.0, sym r.1.1.1.0, sym r.1.1.1.1.0, has, all.there)
egress_again (egress.NewLeader term session leader) has fits =
    let all = ends_empty 6 (I64 term ∷ I64 session ∷ I32 leader ∷ []) (omega arith) (omega arith) (fits.0, (fits.1, (fits.2, tt))) in
    let r = all.headed.reads in
    (all.opens_it, sym r.0, sym r.1.0, sym r.1.1.0, all.there)
