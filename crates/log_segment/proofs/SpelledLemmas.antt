-- A batch that is spelled by its limits.
use Rattle.std.proofs.Common.{◌≡◌, ℕ, ◌+◌, ◌%◌, ◌<◌, ◌≤◌, ◌==◌, List, ◌++◌, length, replicate, sym, ◌∙◌, ap, subst, arith}
use Rattle.std.specs.Prelude.{All}
use Rattle.entry_log.specs.Log.{Log, place_from}
use Rattle.log_segment.specs.Batch.{IsBatchAt, IsBatch, first_begin, frames_of}
use Rattle.log_segment.specs.Held.{IsEventEntry}
use Rattle.log_segment.specs.Spelled.{IsSpelled, zeros_behind}
use Rattle.log_segment.specs.declared.batch.Batch.{Batch}
use Rattle.log_segment.proofs.TogetherLemmas.{batch_small, together_room, together_end, frames_whole}

module _ (p : ℕ) (entries : Log) (at : IsBatchAt p entries) (events : All IsEventEntry entries) where
  pub begin_low : place_from p entries ≤ 16777216 → first_begin p entries < 16777216
  begin_low room = let end = together_end p entries at.together events at.some in let whole = frames_whole entries events in let least = whole.1 at.some in omega (arith, room, end, least)

  pub begin_within : first_begin p entries % 65536 + frames_of entries ≤ 65536
  begin_within = together_room p entries at.together events at.some

  pub spelled : (b : Batch) (frames : List ℕ) → p % 32 ≡ 0 → place_from p entries ≤ 16777216 → b.place ≡ p → b.begin ≡ first_begin p entries → IsBatch b.begin entries frames → length frames ≡ frames_of entries
      → b.bytes.items ≡ frames ++ replicate (zeros_behind b.fills) 0 → b.fills ≡ (b.begin % 65536 + length frames == 65536) → IsSpelled p entries b
  spelled b frames aligned room place_is begin_is spells size bytes fills =
      let whole = frames_whole entries events in
      let least = whole.1 at.some in
      let small = batch_small p entries at events in
      record {
        place = place_is;
        begin = begin_is;
        low = subst (λ k. k < 16777216) (sym begin_is) (begin_low room);
        aligned = aligned;
        frames = frames;
        spells = spells;
        some = omega (arith, size, least);
        whole = ap (λ k. k % 32) size ∙ whole.0;
        within = subst (λ k. k % 65536 + length frames ≤ 65536) (sym begin_is) (omega (arith, begin_within, size));
        bytes = bytes;
        fills_is = fills;
        behind_pad = λ ne. omega (arith, size, small);
      }
