-- Rounds and orders are acts.
use Rattle.std.proofs.Common.{inl, inr, ℕ, zero, suc, ◌+◌, Bool, true, false, List, [], ◌∷◌, length}
use Rattle.service_api.specs.declared.shipped.Kind.{Kind}
use Rattle.scenario.specs.declared.order.Order.{Order}
use Rattle.scenario.specs.declared.order.Order.TheVariants as orders
use Rattle.run_world.specs.Seat.{Fate}
use Rattle.run_world.specs.RunWorld.{RunWorld, Act, Passes, Hands, Duty, Asks, Hears, Starts, Stops, Fails, Invalidates, Fuses, Cuts, Heals, Loses, Replays, does, first_world}
use Rattle.run_orders.specs.Phases.{Leads}
use Rattle.run_orders.specs.Rounds.{Asked, Handed, AllHanded, Answered, AllJoined, OnDuty, phases_in, Round, Rounds}
use Rattle.run_orders.specs.Orders.{Course, course_of, Tried, Step, Reached, Begun, Goes, AllStarted, GotTo, Ran}
use Rattle.run_orders.proofs.Leading.{stays, one, both, beside, ending, called, phases-lead}

module _ (kinds : List Kind) where
  asked : (free : Bool) (m : ℕ) (w v : RunWorld) → Asked kinds free m w v → Leads kinds w v
  asked free m w v (inl z) = beside kinds free w v z
  asked free m w v (inr (inl z)) = called kinds free (Asks m z.0 z.1 z.2) w v z.3
  asked free m w v (inr (inr z)) = called kinds free (Hears m z.0) w v z.1

  tried : (free : Bool) (act : Fate → Act) (w v : RunWorld) → Tried kinds free act w v → Leads kinds w v
  tried free act w v (inl z) = beside kinds free w v z
  tried free act w v (inr z) = called kinds free (act z.0) w v z.1

  -- ---- rounds

  handed : (free : Bool) (i : ℕ) (w v : RunWorld) → Handed kinds free i w v → Leads kinds w v
  handed free zero w v is = stays kinds w v is
  handed free (suc i) w v z = both kinds w z.0 v (handed free i w z.0 z.3) (called kinds free (Hands z.2) z.0 v z.5)

  all-handed : (free : Bool) (w v : RunWorld) → AllHanded kinds free w v → Leads kinds w v
  all-handed free w v z = both kinds w z.last v (handed free z.count w z.last z.handed) (Hands z.fate ∷ [], z.over)

  answered : (free : Bool) (w v : RunWorld) → Answered kinds free w v → Leads kinds w v
  answered free w v (inl z) = beside kinds free w v z
  answered free w v (inr z) = called kinds free (Fails z.0 z.1) w v z.2

  joined : (free : Bool) (i : ℕ) (w v : RunWorld) → AllJoined kinds free i w v → Leads kinds w v
  joined free zero w v is = stays kinds w v is
  joined free (suc i) w v z = both kinds w z.0 v (joined free i w z.0 z.2) (asked free z.1 z.0 v z.3)

  duties : (free : Bool) (m : ℕ) (w v : RunWorld) → OnDuty kinds free m w v → Leads kinds w v
  duties free zero w v is = stays kinds w v is
  duties free (suc m) w v z = both kinds w z.0 v (duties free m w z.0 z.2) (called kinds free (Duty m z.1) z.0 v z.3)

  round : (quiet free : Bool) (count : ℕ) (w v : RunWorld) → Round kinds quiet free count w v → Leads kinds w v
  round quiet free count w v z =
      let begun = does kinds w (Passes (w.now + 10)) in
      let stepped = both kinds w begun z.asked (one kinds w (Passes (w.now + 10))) (joined free count begun z.asked z.clients) in
      let taken = both kinds w z.asked z.handed stepped (all-handed free z.asked z.handed z.packets) in
      let told = both kinds w z.handed z.answered taken (answered free z.handed z.answered z.backup) in
      let served = both kinds w z.answered z.served told (duties free (length w.seats) z.answered z.served z.duties) in
      both kinds w z.served v served (phases-lead kinds (phases_in quiet free (length w.seats)) z.served v z.phases)

  rounds : (quiet free : Bool) (count i : ℕ) (w v : RunWorld) → Rounds kinds quiet free count i w v → Leads kinds w v
  rounds quiet free count zero w v is = stays kinds w v is
  rounds quiet free count (suc i) w v z = both kinds w z.0 v (rounds quiet free count i w z.0 z.1) (round quiet free count z.0 v z.2)

  -- ---- orders

  pub step : (c : Course) (o : Order) (w v : RunWorld) → Step kinds c o w v → Leads kinds w v
  step c (orders.Members line n) w v z = beside kinds c.free w v z
  step c (orders.Service line name) w v z = beside kinds c.free w v z
  step c (orders.Rounds line n) w v z = rounds false c.free c.joined n w v z
  step c (orders.Quiet line n) w v z = rounds true c.free c.joined n w v z
  step c (orders.Connect line client m) w v z = asked c.free m w v z
  step c (orders.Send line client m text) w v z = asked c.free m w v z
  step c (orders.SendHex line client m payload) w v z = asked c.free m w v z
  step c (orders.Close line client m) w v z = asked c.free m w v z
  step c (orders.KeepAlive line client m) w v z = asked c.free m w v z
  step c (orders.Raw line client m bytes) w v z = asked c.free m w v z
  step c (orders.Action line m) w v z = asked c.free m w v z
  step c (orders.Stop line m) w v z = called kinds c.free (Stops m) w v z
  step c (orders.Start line m) w v z = tried c.free (Starts m) w v z
  step c (orders.Invalidate line m) w v z = tried c.free (Invalidates m) w v z
  step c (orders.Fuse line m calls choice) w v z = called kinds c.free (Fuses m calls choice) w v z
  step c (orders.Cut line from to) w v z = called kinds c.free (Cuts from to) w v z
  step c (orders.Heal line from to) w v z = called kinds c.free (Heals from to) w v z
  step c (orders.Lose line from to) w v z = called kinds c.free (Loses from to) w v z
  step c (orders.Replay line from to latest) w v z = called kinds c.free (Replays from to latest) w v z
  step c (orders.FreeOn line) w v z = beside kinds true w v z
  step c (orders.FreeOff line) w v z = ending kinds c.free w v z
  step c (orders.Join line client) w v z = beside kinds c.free w v z
  step c (orders.Offer line client text) w v z = asked c.free z.0 w v z.1
  step c (orders.Backup line m) w v z = beside kinds c.free w v z
  step c (orders.BackupOff line) w v z = beside kinds c.free w v z
  step c (orders.BackupLose line) w v z = beside kinds c.free w v z

  -- ---- runs

  started : (m : ℕ) (w v : RunWorld) → AllStarted kinds m w v → Leads kinds w v
  started zero w v is = stays kinds w v is
  started (suc m) w v z = both kinds w z.0 v (started m w z.0 z.1) (tried false (Starts m) z.0 v z.2)

  reached : (first : RunWorld) (os : List Order) (w : RunWorld) → Reached kinds first os w → Leads kinds first w
  reached first os w (Begun is) = stays kinds first w is
  reached first os w (Goes {os = before} {v = v} o r z) = both kinds first v w (reached first before v r) (step (course_of before) o v w z)

  pub got : (n : ℕ) (os : List Order) (w : RunWorld) → GotTo n kinds os w → Leads kinds (first_world n) w
  got n os w z = both kinds (first_world n) z.first w (started n (first_world n) z.first z.started) (reached z.first os w z.reached)

  pub ran : (n : ℕ) (os : List Order) (w : RunWorld) → Ran n kinds os w → Leads kinds (first_world n) w
  ran n os w z = both kinds (first_world n) z.last w (got n os z.last z.orders) (ending kinds (course_of os).free z.last w z.over)
