-- Containers consume in stretches.
use Rattle.std.proofs.Common.{◌≡◌, ℕ, true, List, [], ◌∷◌, ◌++◌, map, refl, sym, ap, ◌∙◌, subst}
use Rattle.std.proofs.lemmas.List.{append-nil}
use Rattle.commit_counter.specs.Ends.{Fed}
use Rattle.service_container.specs.Held.{Held, consumed_to}
use Rattle.service_container.specs.declared.container.Served.{Served}
use Rattle.service_container.proofs.Stretches.{applies_twice}
use Rattle.service_phases.specs.Pairs.{Each, Each2}
use Rattle.service_phases.specs.Phases.{Began, HasEndedWell, Lending, RanFor, containers, forgetting}
use Rattle.service_phases.specs.Stages.{IsLent}
use Rattle.owed_egress.specs.Outbox.{IndicesRise}
use Rattle.owed_egress.proofs.Rising.{rise_outbox}
use Rattle.consensus_agent.specs.Consumed.{HaveRising}
use Rattle.run_phases.specs.Grown.{GoesOn, Grew}

pub goes_none : (c : Held) → GoesOn c c
goes_none c = record {
  more = [];
  applies = record {
    service = refl;
    base = refl;
    inputs = sym (append-nil c.inputs);
    state = λ w. refl;
    outbox = λ w. sym (append-nil c.outbox);
    records = λ w. sym (append-nil c.records);
  };
}

pub goes_twice : (c d e : Held) → d.whole ≡ true → GoesOn c d → GoesOn d e → GoesOn c e
goes_twice c d e whole h k = record { more = h.more ++ k.more; applies = applies_twice c d e h.more k.more whole h.applies k.applies }

pub all_none : (cs : List Held) → Each2 GoesOn cs cs
all_none [] = tt
all_none (c ∷ cs) = (goes_none c, all_none cs)

ran_one : (c : Held) (s : Served) → RanFor c s → GoesOn c s.container
ran_one c s h = record { more = h.consumes.0; applies = h.consumes.1 }

-- containers that went on, and then ran
pub all_ran : (first : ℕ) (cs ds : List Held) (ss : List Served) → Each2 GoesOn cs ds → Each (IsLent first) ds → Each2 RanFor ds ss → Each2 GoesOn cs (containers ss)
all_ran first [] [] [] g l r = tt
all_ran first [] [] (s ∷ ss) g l r = absurd r
all_ran first [] (d ∷ ds) ss g l r = absurd g
all_ran first (c ∷ cs) [] ss g l r = absurd g
all_ran first (c ∷ cs) (d ∷ ds) [] g l r = absurd r
all_ran first (c ∷ cs) (d ∷ ds) (s ∷ ss) g l r = (goes_twice c d s.container l.0.ready.1 g.0 (ran_one d s r.0), all_ran first cs ds ss g.1 l.1 r.1)

-- containers whose outboxes were emptied, and that then went on
pub all_grew : (cs ds : List Held) → Each2 GoesOn (map forgetting cs) ds → Each2 Grew cs ds
all_grew [] [] h = tt
all_grew [] (d ∷ ds) h = absurd h
all_grew (c ∷ cs) [] h = absurd h
all_grew (c ∷ cs) (d ∷ ds) h = (h.0, all_grew cs ds h.1)

-- all that it consumed was applied
abbrev pub IsWhole : Held → Type 0
IsWhole c = c.whole ≡ true

pub grew_rising : (c d : Held) → Grew c d → d.whole ≡ true → IndicesRise d.outbox
grew_rising c d h whole = subst IndicesRise (sym (h.applies.outbox whole)) (rise_outbox c.state (consumed_to c) h.more)

-- what came out since the phase began stands in order
pub all_rising : (cs ds : List Held) → Each2 Grew cs ds → Each IsWhole ds → HaveRising ds
all_rising [] [] g w = tt
all_rising [] (d ∷ ds) g w = absurd g
all_rising (c ∷ cs) [] g w = absurd g
all_rising (c ∷ cs) (d ∷ ds) g w = (grew_rising c d g.0 w.0, all_rising cs ds g.1 w.1)

-- containers that ended in the ordinary way
pub all_whole : (ds : List Held) (ss : List Served) → Each2 RanFor ds ss → Each HasEndedWell ss → Each IsWhole (containers ss)
all_whole [] [] r e = tt
all_whole [] (s ∷ ss) r e = absurd r
all_whole (d ∷ ds) [] r e = absurd r
all_whole (d ∷ ds) (s ∷ ss) r e = ((r.0.end e.0).0, all_whole ds ss r.1 e.1)

-- ---- a phase's containers come back

pub began_lent : (a b : Lending) (feeds : List Fed) (jobs : List Served) → Began a b feeds jobs → b.lent ≡ a.kept
began_lent a b feeds jobs h = ap (λ (x : Lending). x.lent) h.lending

-- of a phase whose containers were all lent those that came back are kept
pub kept_back : (k : List Held) (l : Lending) (jobs : List Served) → k ≡ [] → l ≡ record { kept = k ++ containers jobs; lent = []; begun = [] } → l.kept ≡ containers jobs
kept_back k l jobs none is = ap (λ (x : Lending). x.kept) is ∙ ap (λ (x : List Held). x ++ containers jobs) none

pub came_grown : (first : ℕ) (cs ls ds : List Held) (ss : List Served) → ds ≡ containers ss → Each2 GoesOn (map forgetting cs) ls → Each (IsLent first) ls → Each2 RanFor ls ss → Each2 Grew cs ds
came_grown first cs ls ds ss is g l r = subst (Each2 Grew cs) (sym is) (all_grew cs (containers ss) (all_ran first (map forgetting cs) ls ss g l r))

pub forgot_grown : (cs ds : List Held) → ds ≡ map forgetting cs → Each2 Grew cs ds
forgot_grown cs ds is = subst (Each2 Grew cs) (sym is) (all_grew cs (map forgetting cs) (all_none (map forgetting cs)))

-- ---- containers that are kept and those that are lent

pub all_twice : (first : ℕ) (cs ds es : List Held) → Each2 GoesOn cs ds → Each (IsLent first) ds → Each2 GoesOn ds es → Each2 GoesOn cs es
all_twice first [] [] [] g l k = tt
all_twice first [] [] (e ∷ es) g l k = absurd k
all_twice first [] (d ∷ ds) es g l k = absurd g
all_twice first (c ∷ cs) [] es g l k = absurd g
all_twice first (c ∷ cs) (d ∷ ds) [] g l k = absurd k
all_twice first (c ∷ cs) (d ∷ ds) (e ∷ es) g l k = (goes_twice c d e l.0.ready.1 g.0 k.0, all_twice first cs ds es g.1 l.1 k.1)

-- those that are lent went on behind those that are kept
pub spliced : (first : ℕ) (cs ks ls bs : List Held) → Each2 GoesOn cs (ks ++ ls) → Each (IsLent first) ls → Each2 GoesOn ls bs → Each2 GoesOn cs (ks ++ bs)
spliced first cs [] ls bs g l k = all_twice first cs ls bs g l k
spliced first [] (x ∷ ks) ls bs g l k = absurd g
spliced first (c ∷ cs) (x ∷ ks) ls bs g l k = (g.0, spliced first cs ks ls bs g.1 l k)

-- none is kept
pub none_kept : (cs : List Held) (l : Lending) → l.kept ≡ [] → Each2 GoesOn cs l.lent → Each2 GoesOn cs (l.kept ++ l.lent)
none_kept cs l none g = subst (λ (k : List Held). Each2 GoesOn cs (k ++ l.lent)) (sym none) g

-- none is lent
pub none_lent : (cs : List Held) (l : Lending) → l.lent ≡ [] → Each2 GoesOn cs l.kept → Each2 GoesOn cs (l.kept ++ l.lent)
none_lent cs l none g = subst (λ (k : List Held). Each2 GoesOn cs (l.kept ++ k)) (sym none) (subst (Each2 GoesOn cs) (sym (append-nil l.kept)) g)

-- the containers that were lent came back
pub lent_back : (first : ℕ) (ls ds : List Held) (ss : List Served) → ds ≡ containers ss → Each (IsLent first) ls → Each2 RanFor ls ss → Each2 GoesOn ls ds
lent_back first ls ds ss is l r = subst (Each2 GoesOn ls) (sym is) (all_ran first ls ls ss (all_none ls) l r)
