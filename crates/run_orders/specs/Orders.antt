-- The orders of a scenario, each as what it may make of a world, and the worlds that a run of them may come to.
use Rattle.std.specs.Prelude.{◌≡◌, ◌⊎◌, ℕ, zero, suc, Bool, true, false, List, [], ◌∷◌, ◌++◌, fold}
use Rattle.service_api.specs.declared.shipped.Kind.{Kind}
use Rattle.scenario.specs.declared.order.Order.{Order}
use Rattle.scenario.specs.declared.order.Order.TheVariants as orders
use Rattle.run_world.specs.Seat.{Fate}
use Rattle.run_world.specs.RunWorld.{RunWorld, Act, Starts, Stops, Invalidates, Fuses, Cuts, Heals, Loses, Replays, first_world}
use Rattle.run_orders.specs.Phases.{Beside, Ending, Called}
use Rattle.run_orders.specs.Rounds.{Asked, Rounds}

-- what orders leave for those that follow: whether phases go on over orders, and how many clients joined
pub record Course : Type 0 where
  pub free : Bool
  pub joined : ℕ

abbrev pub first_course : Course
first_course = record { free = false; joined = 0 }

abbrev pub course_after : Course → Order → Course
course_after c (orders.FreeOn line) = record c { free = true }
course_after c (orders.FreeOff line) = record c { free = false }
course_after c (orders.Join line client) = record c { joined = suc c.joined }
course_after c _ = c

abbrev pub course_of : List Order → Course
course_of os = fold course_after first_course os

-- a start, or an invalidation: its disk decides what becomes of it; where that holds bytes that are none of its own, the member stays as it is
abbrev pub Tried : List Kind → Bool → (Fate → Act) → RunWorld → RunWorld → Type 0
Tried kinds free act w v = Beside kinds free w v ⊎ ((f : Fate) × Called kinds free (act f) w v)

-- one order
abbrev pub Step : List Kind → Course → Order → RunWorld → RunWorld → Type 0
Step kinds c (orders.Members line n) w v = Beside kinds c.free w v
Step kinds c (orders.Service line name) w v = Beside kinds c.free w v
Step kinds c (orders.Rounds line n) w v = Rounds kinds false c.free c.joined n w v
Step kinds c (orders.Quiet line n) w v = Rounds kinds true c.free c.joined n w v
Step kinds c (orders.Connect line client m) w v = Asked kinds c.free m w v
Step kinds c (orders.Send line client m text) w v = Asked kinds c.free m w v
Step kinds c (orders.SendHex line client m payload) w v = Asked kinds c.free m w v
Step kinds c (orders.Close line client m) w v = Asked kinds c.free m w v
Step kinds c (orders.KeepAlive line client m) w v = Asked kinds c.free m w v
Step kinds c (orders.Raw line client m bytes) w v = Asked kinds c.free m w v
Step kinds c (orders.Action line m) w v = Asked kinds c.free m w v
Step kinds c (orders.Stop line m) w v = Called kinds c.free (Stops m) w v
Step kinds c (orders.Start line m) w v = Tried kinds c.free (Starts m) w v
Step kinds c (orders.Invalidate line m) w v = Tried kinds c.free (Invalidates m) w v
Step kinds c (orders.Fuse line m calls choice) w v = Called kinds c.free (Fuses m calls choice) w v
Step kinds c (orders.Cut line from to) w v = Called kinds c.free (Cuts from to) w v
Step kinds c (orders.Heal line from to) w v = Called kinds c.free (Heals from to) w v
Step kinds c (orders.Lose line from to) w v = Called kinds c.free (Loses from to) w v
Step kinds c (orders.Replay line from to latest) w v = Called kinds c.free (Replays from to latest) w v
Step kinds c (orders.FreeOn line) w v = Beside kinds true w v
Step kinds c (orders.FreeOff line) w v = Ending kinds c.free w v
Step kinds c (orders.Join line client) w v = Beside kinds c.free w v
Step kinds c (orders.Offer line client text) w v = (m : ℕ) × Asked kinds c.free m w v
Step kinds c (orders.Backup line m) w v = Beside kinds c.free w v
Step kinds c (orders.BackupOff line) w v = Beside kinds c.free w v
Step kinds c (orders.BackupLose line) w v = Beside kinds c.free w v

-- what orders may make of a first world
pub data Reached (kinds : List Kind) (first : RunWorld) : List Order → RunWorld → Type 0 where
  Begun : {w : RunWorld} → w ≡ first → Reached kinds first [] w
  Goes : {os : List Order} {v w : RunWorld} (o : Order) → Reached kinds first os v → Step kinds (course_of os) o v w → Reached kinds first (os ++ o ∷ []) w

-- the first so many members have been started, each on its formatted disk
abbrev pub AllStarted : List Kind → ℕ → RunWorld → RunWorld → Type 0
AllStarted kinds zero w v = v ≡ w
AllStarted kinds (suc m) w v = (u : RunWorld) × AllStarted kinds m w u × Tried kinds false (Starts m) u v

-- the first so many of a run's orders have been made: every member was started, in rising order, and then they came
pub record GotTo (n : ℕ) (kinds : List Kind) (os : List Order) (w : RunWorld) : Type 0 where
  pub first : RunWorld
  pub started : AllStarted kinds n (first_world n) first
  pub reached : Reached kinds first os w

-- a run of these orders has ended: phases that went on over them ended at last
pub record Ran (n : ℕ) (kinds : List Kind) (os : List Order) (w : RunWorld) : Type 0 where
  pub last : RunWorld
  pub orders : GotTo n kinds os last
  pub over : Ending kinds (course_of os).free last w
