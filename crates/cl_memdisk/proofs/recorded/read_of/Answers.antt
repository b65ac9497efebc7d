-- The bytes of a file that is there, and of one that isn't.
use Rattle.std.proofs.Common.{◌∙◌, ap, sym, arith}
use Rattle.cl_memdisk.specs.Changes.{FileData}
use Rattle.cl_memdisk.specs.Files.{data_of}
use Rattle.cl_memdisk.proofs.FilesLemmas.{data_at-get, data_at_past}
use Rattle.cl_memdisk.proofs.recorded.read_of.Goals as goal

pub returns : goal.returns
returns c =
    let f = c.index-files-file.result in
    c.deref.ensures.value ∙ ap (λ (d : FileData). d.bytes) (ap data_of c.index-files-file.is ∙ sym (data_at-get c.args.files.now c.args.file f c.if-file-files.false))

pub returns-then-file-files : goal.returns-then-file-files
returns-then-file-files c = sym (ap (λ (d : FileData). d.bytes) (data_at_past c.args.files.now c.args.file (omega arith)))
