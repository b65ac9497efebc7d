-- What an index keeps.
use Rattle.std.specs.Prelude.{◌≡◌, ℕ, List, [], ◌∷◌, map, ⊤}
use Rattle.entry_log.specs.Log.{end_after}
use Rattle.entry_log.specs.Shape.{EntryShape, Shape, TermsRise}
use Rattle.entry_log.specs.declared.index.Stop.{Stop}

abbrev pub stop_shape : Stop → EntryShape
stop_shape s = record { term = s.term; len = s.event_len }

-- the shape of the log that is indexed
abbrev pub shape_at : List Stop → Shape
shape_at stops = map stop_shape stops

-- each entry ends where its event ends after the one before
abbrev pub EndsFrom : ℕ → List Stop → Type 0
EndsFrom p [] = ⊤
EndsFrom p (s ∷ ss) = (s.end ≡ end_after p s.event_len) × EndsFrom s.end ss

pub record IsIndexed (stops : List Stop) : Type 0 where
  pub ends : EndsFrom 0 stops
  pub rises : TermsRise (shape_at stops)
