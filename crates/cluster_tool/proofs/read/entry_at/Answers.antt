use Rattle.std.proofs.Common.{◌+◌, get_or, take, drop}
use Rattle.cluster_tool.proofs.Logs.{no_entry}
use Rattle.cluster_tool.proofs.Reading.{parted, front_count, only_ok, only_err}
use Rattle.cluster_tool.proofs.read.entry_at.Goals as goal

pub returns-clause-reads : goal.returns-clause-reads
returns-clause-reads g c =
    let e = c.read.ensures in
    let log = c.args.member.now.kept.log in
    let i = c.args.index in
    let below = c.requires.index in
    record {
      still = record { whole = e.whole; kept = e.kept; disk = record { same = e.tells; still = e.honest; later = e.cause.later; untouched = λ t. let l = e.looks t in record { files = l.files; lets = l.lets; burnt = l.burnt } } };
      cause = e.cause;
      sound = λ t. only_err (get_or log i no_entry) c.read.result (e.exact t (take i log) (drop (i + 1) log) (get_or log i no_entry) (parted log i no_entry below) (front_count log i below));
    }

pub returns-clause-entry : goal.returns-clause-entry
returns-clause-entry g c t d =
    let log = c.args.member.now.kept.log in
    let i = c.args.index in
    let below = c.requires.index in
    only_ok (get_or log i d) c.read.result (c.read.ensures.exact t (take i log) (drop (i + 1) log) (get_or log i d) (parted log i d below) (front_count log i below))
