-- What a disk that tells nothing needn't show.
use Rattle.std.specs.Prelude.{IsTrue, false}

-- nothing follows from what it doesn't tell
pub untold : {A : Type 0} → IsTrue false → A
untold h = cc
