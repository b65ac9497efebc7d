-- What was fed is what was taken and then what the queue holds. One pass at most may push, and it has the list of what was fed. The same for pops.
use Rattle.std.specs.Prelude.{◌≡◌, ℕ, Bool, true, List, ◌++◌}
use mathlib.Core.Option.{some}
use lib.ListN.{get_elem?}
use Rattle.cl_base.specs.declared.entry.Entry.{Entry}
use Rattle.commit_counter.specs.declared.line.Log.{Log}

abbrev pub log : Bool → Bool → List Entry → List Entry → Log
log a b fed taken = record { pushes = a; pops = b; fed = fed; taken = taken }

abbrev pub Fits : ℕ → ℕ → List Entry → List Entry → ℕ → Log → Type 0
Fits feeder poller fed taken port v = (v.pushes ≡ true → (port ≡ feeder) × (v.fed ≡ fed)) × (v.pops ≡ true → (port ≡ poller) × (v.taken ≡ taken))

abbrev pub Relayed : List Entry → List Log → Type 0
Relayed items views = (feeder : ℕ) × (poller : ℕ) × (fed : List Entry) × (taken : List Entry) × (fed ≡ taken ++ items)
    × ((port : ℕ) (v : Log) → get_elem? views port ≡ some v → Fits feeder poller fed taken port v)

-- what was fed ends with these
abbrev pub Ends : List Entry → List Entry → Type 0
Ends fed items = (taken : List Entry) × (fed ≡ taken ++ items)

-- what was taken and then these is what was fed at that moment
abbrev pub Begins : List Entry → List Entry → Type 0
Begins taken items = (fed : List Entry) × (fed ≡ taken ++ items)
