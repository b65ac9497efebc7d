-- What stands on a page after each entry or stream, and what is still to come.
use Rattle.std.proofs.Common.{◌≡◌, ℕ, suc, ◌+◌, ◌-◌, ◌<◌, ◌≤◌, List, [], ◌++◌, length, drop, get_or, ◌∙◌, ap, arith}
use Rattle.std.proofs.lemmas.List.{drop_all}
use Rattle.sbe_events.specs.declared.event.Event.{Event}
use Rattle.echo_run.specs.Text.{entry_line, entry_lines, records_on, stream_text, streams_from}
use Rattle.echo_run.specs.declared.sent.Sent.{Sent}
use Rattle.echo_run.proofs.Sending.{next_piece, last_piece, next_item}

pub entries_more : (word : List ℕ) (first k : ℕ) (entries : List Event) (e : Event) (was now whole : List ℕ) → k < length entries → e ≡ get_or entries k e → was ++ entry_lines word (first + k) (drop k entries) ≡ whole → now ≡ was ++ entry_line word (first + k) e → now ++ entry_lines word (first + (k + 1)) (drop (k + 1) entries) ≡ whole
entries_more word first k entries e was now whole within is so_far put =
    let one : suc (first + k) ≡ first + (k + 1) = omega arith in
    next_piece whole was now (entry_line word (first + k) e) _ (entry_lines word (first + (k + 1)) (drop (k + 1) entries)) so_far
    (ap (entry_lines word (first + k)) (next_item entries k e within is) ∙ ap (λ n. entry_line word (first + k) e ++ entry_lines word n (drop (k + 1) entries)) one)
    put

pub entries_done : (word : List ℕ) (first k : ℕ) (entries : List Event) (was whole : List ℕ) → length entries ≤ k → was ++ entry_lines word (first + k) (drop k entries) ≡ whole → was ≡ whole
entries_done word first k entries was whole past so_far = last_piece whole was _ so_far (ap (entry_lines word (first + k)) (drop_all k entries past))

streams_next : (most k : ℕ) (sent : List Sent) → k < most → streams_from (most - k) k sent ≡ stream_text k (records_on k sent) ++ streams_from (most - (k + 1)) (k + 1) sent
unfolding streams_from
streams_next most k sent within =
    let more : most - k ≡ suc (most - (k + 1)) = omega arith in
    let one : suc k ≡ k + 1 = omega arith in
    ap (λ n. streams_from n k sent) more ∙ ap (λ j. stream_text k (records_on k sent) ++ streams_from (most - (k + 1)) j sent) one

streams_end : (most k : ℕ) (sent : List Sent) → most ≤ k → streams_from (most - k) k sent ≡ []
unfolding streams_from
streams_end most k sent past = let none : most - k ≡ 0 = omega arith in ap (λ n. streams_from n k sent) none

pub streams_more : (most k : ℕ) (sent : List Sent) (was now whole : List ℕ) → k < most → was ++ streams_from (most - k) k sent ≡ whole → now ≡ was ++ stream_text k (records_on k sent) → now ++ streams_from (most - (k + 1)) (k + 1) sent ≡ whole
streams_more most k sent was now whole within so_far put =
    next_piece whole was now (stream_text k (records_on k sent)) _ (streams_from (most - (k + 1)) (k + 1) sent) so_far (streams_next most k sent within) put

pub streams_done : (most k : ℕ) (sent : List Sent) (was whole : List ℕ) → most ≤ k → was ++ streams_from (most - k) k sent ≡ whole → was ≡ whole
streams_done most k sent was whole past so_far = last_piece whole was _ so_far (streams_end most k sent past)
