-- What is sent of a row, with what was read of the log.
use Rattle.std.proofs.Common.{◌≡◌, ℕ, Bool, IsTrue, List, length, sym, ap, ◌∙◌, subst}
use Rattle.cl_base.specs.declared.entry.Entry.{Entry}
use Rattle.entry_log.specs.Log.{Log}
use Rattle.entry_log.specs.Shape.{Shape, shape_of}
use Rattle.sbe_consensus.specs.declared.packet.Outgoing.{Outgoing}
use Rattle.consensus_core.specs.Fit.{Held}
use Rattle.consensus_core.specs.Member.{entries_in}
use Rattle.consensus_core.specs.Whole.{packets_sent, wanted}
use Rattle.member_disk.specs.Kept.{Kept}
use Rattle.consensus_agent.specs.Reads.{AreRead, AreWithin}
use Rattle.consensus_agent.specs.Rows.{IsSpoken}
use Rattle.consensus_agent.proofs.Entries.{length_shape}
use Rattle.consensus_agent.proofs.Ranges.{wanted_within}

abbrev pub shape_in : Kept → Shape
shape_in k = shape_of k.log

-- what is wanted of a log lies within it
pub lies_within : (core : Held) (xs : Shape) (log : Log) (rs slice : List (ℕ × ℕ)) → slice ≡ rs → rs ≡ wanted core xs → xs ≡ shape_of log → AreWithin slice (length log)
lies_within core xs log rs slice a b is =
    subst (λ r. AreWithin r (length log)) (sym (a ∙ b ∙ ap (wanted core) is)) (subst (AreWithin (wanted core (shape_of log))) (length_shape log) (wanted_within core (shape_of log)))

-- the packets of a row, with what was read
pub is_spoken : (told : Bool) (core : Held) (log : Log) (xs ys : Shape) (rs slice : List (ℕ × ℕ)) (es read : List Entry) (out : List Outgoing) → slice ≡ rs → rs ≡ wanted core xs → xs ≡ shape_of log → ys ≡ shape_of log → read ≡ es
    → AreRead slice es → (IsTrue told → es ≡ entries_in slice log) → out ≡ packets_sent core ys read → IsSpoken told core log out
is_spoken told core log xs ys rs slice es read out a b x y r are own packets =
    let is : slice ≡ wanted core (shape_of log) = a ∙ b ∙ ap (wanted core) x in
    record {
      read = es;
      entries = subst (λ z. AreRead z es) is are;
      own = λ t. own t ∙ ap (λ z. entries_in z log) is;
      packets = packets ∙ ap (λ z. packets_sent core z read) y ∙ ap (packets_sent core (shape_of log)) r;
    }

-- of the same member
pub spoken_as : (was told : Bool) (c h : Held) (k l : Kept) (out : List Outgoing) → was ≡ told → c ≡ h → l ≡ k → IsSpoken was c k.log out → IsSpoken told h l.log out
spoken_as was told c h k l out t core same spoken =
    subst (λ b. IsSpoken b h l.log out) t (subst (λ z. IsSpoken was z l.log out) core (subst (λ (z : Kept). IsSpoken was c z.log out) (sym same) spoken))
