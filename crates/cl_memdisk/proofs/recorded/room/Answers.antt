-- An empty file more changes no file.
use Rattle.std.proofs.Common.{◌≡◌, ◌∷◌, ◌++◌, [], ◌∙◌, ap, rules}
use Rattle.cl_memdisk.specs.Files.{data_at}
use Rattle.cl_memdisk.proofs.FilesLemmas.{data_at-push}
use Rattle.cl_memdisk.proofs.recorded.room.Goals as goal

pub grow-preserved : goal.grow-preserved
grow-preserved c f =
    let pushed : c.push.new.self.items ≡ c.grow.files.items ++ c.new.result ∷ [] = search rules in
    ap (λ l. data_at l f) pushed ∙ data_at-push c.grow.files.items c.new.result f c.new.ensures ∙ c.grow.invariant f
