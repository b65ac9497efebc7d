-- What is read of a header.
use Rattle.std.proofs.Common.{rules, ◌≡◌, min, ℕ, ◌+◌, ◌-◌, ◌%◌, length, Result, Ok, Err, refl, arith}
use Rattle.log_segment.specs.declared.scan.Head.{Head}
use Rattle.log_segment.specs.declared.scan.Head.TheVariants as heads
use Rattle.log_segment.specs.Segment.{pad_frame}
use Rattle.log_segment.specs.Found.{data_header}
use Rattle.log_segment.proofs.FrameLens.{length-header}
use Rattle.log_segment.proofs.PadLemmas.{pad_size}
use Rattle.log_segment.proofs.HeadLemmas.{head_seen, long_enough, window_has, long_shut, gate_shut}
use Rattle.log_segment.proofs.EntryLemmas.{from_quiet}
use Rattle.log_segment.proofs.scan.read_head.Goals as goal

abbrev judged : Head → Result Head ℕ
judged h = Ok h

same_head : (a b : Head) → judged a ≡ judged b → a ≡ b
same_head a b is = cc

abbrev refused : ℕ → Result Head ℕ
refused i = Err i

never : (i : ℕ) (h : Head) → refused i ≡ judged h → ⊥
never i h is = cc

pub returns-in-Ok-judge-clause-seen : goal.returns-in-Ok-judge-clause-seen
returns-in-Ok-judge-clause-seen g c told =
    let buf = c.read_some.new.buf in
    let p = c.args.position in
    let file = ((g.D.Disk.state c.args.disk.now).files (2 + c.args.segment)).reads in
    let read = c.in-Ok.ensures.read told in
    let all : length buf ≡ 32 = search rules in
    let count_is : c.in-Ok.count ≡ min (length buf) (length file - p % 65536) = omega (arith, read.count, all) in
    head_seen p file buf c.in-Ok.count c.in-Ok-judge.head all count_is read.bytes c.in-Ok-judge.head refl c.in-Ok-judge.ensures.short c.in-Ok-judge.ensures.closed c.in-Ok-judge.ensures.pad c.in-Ok-judge.ensures.data

pub returns-in-Ok-judge-clause-closed : goal.returns-in-Ok-judge-clause-closed
returns-in-Ok-judge-clause-closed g c told shut =
    let buf = c.read_some.new.buf in
    let p = c.args.position in
    let file = ((g.D.Disk.state c.args.disk.now).files (2 + c.args.segment)).reads in
    let read = c.in-Ok.ensures.read told in
    let all : length buf ≡ 32 = search rules in
    let count_is : c.in-Ok.count ≡ min (length buf) (length file - p % 65536) = omega (arith, read.count, all) in
    same_head c.in-Ok-judge.head heads.Closed (c.in-Ok-judge.ensures.is_closed (long_shut p file buf c.in-Ok.count c.in-Ok-judge.head all count_is read.bytes shut) (gate_shut p file buf c.in-Ok.count c.in-Ok-judge.head all count_is read.bytes shut))

pub returns-in-Err-judge-clause-closed : goal.returns-in-Err-judge-clause-closed
returns-in-Err-judge-clause-closed g c told shut =
    let buf = c.read_some.new.buf in
    let p = c.args.position in
    let file = ((g.D.Disk.state c.args.disk.now).files (2 + c.args.segment)).reads in
    let read = c.in-Ok.ensures.read told in
    let all : length buf ≡ 32 = search rules in
    let count_is : c.in-Ok.count ≡ min (length buf) (length file - p % 65536) = omega (arith, read.count, all) in
    absurd (never c.in-Err-judge.wrong heads.Closed (c.in-Err-judge.ensures.is_closed (long_shut p file buf c.in-Ok.count heads.Short all count_is read.bytes shut) (gate_shut p file buf c.in-Ok.count heads.Short all count_is read.bytes shut)))

pub returns-in-Err-clause-closed : goal.returns-in-Err-clause-closed
returns-in-Err-clause-closed g c told shut = from_quiet c.in-Err.trouble c.from.result c.from.ensures

pub returns-in-Ok-judge-clause-pad : goal.returns-in-Ok-judge-clause-pad
returns-in-Ok-judge-clause-pad g c told stands =
    let buf = c.read_some.new.buf in
    let p = c.args.position in
    let file = ((g.D.Disk.state c.args.disk.now).files (2 + c.args.segment)).reads in
    let read = c.in-Ok.ensures.read told in
    let all : length buf ≡ 32 = search rules in
    let count_is : c.in-Ok.count ≡ min (length buf) (length file - p % 65536) = omega (arith, read.count, all) in
    same_head c.in-Ok-judge.head heads.Pad (c.in-Ok-judge.ensures.is_pad (long_enough p file buf c.in-Ok.count c.in-Ok-judge.head all count_is read.bytes (pad_frame p) (pad_size p) stands) (window_has p file buf c.in-Ok.count c.in-Ok-judge.head all count_is read.bytes (pad_frame p) (pad_size p) stands))

pub returns-in-Err-judge-clause-pad : goal.returns-in-Err-judge-clause-pad
returns-in-Err-judge-clause-pad g c told stands =
    let buf = c.read_some.new.buf in
    let p = c.args.position in
    let file = ((g.D.Disk.state c.args.disk.now).files (2 + c.args.segment)).reads in
    let read = c.in-Ok.ensures.read told in
    let all : length buf ≡ 32 = search rules in
    let count_is : c.in-Ok.count ≡ min (length buf) (length file - p % 65536) = omega (arith, read.count, all) in
    absurd (never c.in-Err-judge.wrong heads.Pad (c.in-Err-judge.ensures.is_pad (long_enough p file buf c.in-Ok.count heads.Short all count_is read.bytes (pad_frame p) (pad_size p) stands) (window_has p file buf c.in-Ok.count heads.Short all count_is read.bytes (pad_frame p) (pad_size p) stands)))

pub returns-in-Err-clause-pad : goal.returns-in-Err-clause-pad
returns-in-Err-clause-pad g c told stands = from_quiet c.in-Err.trouble c.from.result c.from.ensures

pub returns-in-Ok-judge-clause-data : goal.returns-in-Ok-judge-clause-data
returns-in-Ok-judge-clause-data g c told flags carried may stands =
    let buf = c.read_some.new.buf in
    let p = c.args.position in
    let file = ((g.D.Disk.state c.args.disk.now).files (2 + c.args.segment)).reads in
    let read = c.in-Ok.ensures.read told in
    let all : length buf ≡ 32 = search rules in
    let count_is : c.in-Ok.count ≡ min (length buf) (length file - p % 65536) = omega (arith, read.count, all) in
    same_head c.in-Ok-judge.head (heads.Data flags carried) (c.in-Ok-judge.ensures.is_data (long_enough p file buf c.in-Ok.count c.in-Ok-judge.head all count_is read.bytes (data_header (32 + carried) flags p) (length-header (32 + carried) flags 1 p 0x5A) stands) flags carried may (window_has p file buf c.in-Ok.count c.in-Ok-judge.head all count_is read.bytes (data_header (32 + carried) flags p) (length-header (32 + carried) flags 1 p 0x5A) stands))

pub returns-in-Err-judge-clause-data : goal.returns-in-Err-judge-clause-data
returns-in-Err-judge-clause-data g c told flags carried may stands =
    let buf = c.read_some.new.buf in
    let p = c.args.position in
    let file = ((g.D.Disk.state c.args.disk.now).files (2 + c.args.segment)).reads in
    let read = c.in-Ok.ensures.read told in
    let all : length buf ≡ 32 = search rules in
    let count_is : c.in-Ok.count ≡ min (length buf) (length file - p % 65536) = omega (arith, read.count, all) in
    absurd (never c.in-Err-judge.wrong (heads.Data flags carried) (c.in-Err-judge.ensures.is_data (long_enough p file buf c.in-Ok.count heads.Short all count_is read.bytes (data_header (32 + carried) flags p) (length-header (32 + carried) flags 1 p 0x5A) stands) flags carried may (window_has p file buf c.in-Ok.count heads.Short all count_is read.bytes (data_header (32 + carried) flags p) (length-header (32 + carried) flags 1 p 0x5A) stands)))

pub returns-in-Err-clause-data : goal.returns-in-Err-clause-data
returns-in-Err-clause-data g c told flags carried may stands = from_quiet c.in-Err.trouble c.from.result c.from.ensures
