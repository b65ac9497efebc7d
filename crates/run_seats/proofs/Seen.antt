-- What a member is seen as.
use Rattle.std.proofs.Common.{◌≡◌, ℕ, Bool, Some, refl, sym, subst, ap, ◌∙◌}
use Rattle.std.specs.Prelude.{IsTrue}
use Rattle.cl_base.specs.Disk.{DiskState}
use Rattle.run_orders.specs.Stands.{UpSeen}
use Rattle.run_seats.specs.Seen.{IsFused, IsLooked, IsRead, MemberSeen}

module _ {D : Type 0} where
  pub was_read : (a b : MemberSeen D) → b.seen.disk.kept ≡ a.seen.disk.kept → b.seen.core ≡ a.seen.core → b.seen.module_held ≡ a.seen.module_held → b.seen.lending ≡ a.seen.lending → b.seen.base ≡ a.seen.base → b.seen.role ≡ a.seen.role
      → b.seen.over ≡ a.seen.over → b.whole ≡ a.whole → IsRead a b
  was_read a b kept core own lending base role over whole = record {
    rest = λ i. record {
      seen = record { core = core i; disk = b.seen.disk; module_held = own i; lending = lending i; role = role i; base = base i; over = over i };
      whole = whole i;
    };
    kept = kept;
  }

  pub read_none : (a b : MemberSeen D) → b ≡ a → IsRead a b
  read_none a b is = subst (IsRead a) (sym is) (record { rest = refl; kept = refl })

  pub read_more : (a b c : MemberSeen D) → IsRead a b → IsRead b c → IsRead a c
  read_more a b c first second = record {
    rest = second.rest ∙ ap (λ (x : MemberSeen D). record x { seen = record x.seen { disk = c.seen.disk } }) first.rest;
    kept = second.kept ∙ first.kept;
  }

  pub looked : (a b : MemberSeen D) → IsRead a b → IsLooked a.seen b.seen
  looked a b h = record { rest = ap (λ (x : MemberSeen D). x.seen) h.rest; kept = h.kept }

  pub was_fused : (state : D → DiskState) (is_told is_honest : D → Bool) (calls : ℕ) (u v : UpSeen D) → IsTrue u.disk.whole → IsTrue v.disk.whole → v.disk.kept ≡ u.disk.kept → v.core ≡ u.core → v.module_held ≡ u.module_held → v.lending ≡ u.lending
      → v.base ≡ u.base → v.role ≡ u.role → v.over ≡ u.over → is_told v.disk.disk ≡ is_told u.disk.disk → is_honest v.disk.disk ≡ is_honest u.disk.disk → (IsTrue (is_told u.disk.disk) → state v.disk.disk ≡ record (state u.disk.disk) { lets = Some calls })
      → IsFused state is_told is_honest calls u v
  was_fused state is_told is_honest calls u v was is kept core own lending base role over tells honest set = record {
    rest = let whole : v.disk.whole ≡ u.disk.whole = is ∙ sym was in
        λ i. record { core = core i; disk = record { kept = kept i; whole = whole i; disk = v.disk.disk }; module_held = own i; lending = lending i; role = role i; base = base i; over = over i };
    tells = tells;
    honest = honest;
    set = set;
  }
