-- The bytes that the cluster and its clients write: each message's fields in the order of its table.
use Rattle.std.specs.Prelude.{ℕ, ℤ, pos, ◌<◌, ◌≤◌, ◌^◌, List, [], ◌∷◌, ◌++◌, length, FitsSigned}
use Rattle.std.specs.Int.{w32, w64}
use Rattle.wire_prims.specs.Strict.{message, counted}
use Rattle.wire_prims.specs.declared.strict.Field.TheVariants.{I64, I32}
use Rattle.sbe_client.specs.declared.ingress.Ingress.{Ingress}
use Rattle.sbe_client.specs.declared.ingress.Ingress.TheVariants as ingress
use Rattle.sbe_client.specs.declared.egress.Egress.{Egress}
use Rattle.sbe_client.specs.declared.egress.Egress.TheVariants as egress

-- a message that names a term and a session and nothing else
abbrev pub session_spelling : ℕ → ℤ → ℤ → List ℕ
session_spelling template term session = message template (I64 term ∷ I64 session ∷ [])

-- what a client sends: a message's stamp and a connect's version are 0, the credentials are empty
unfoldable pub ingress_spelling_of : Ingress → List ℕ
ingress_spelling_of (ingress.Message term session payload) = message 1 (I64 term ∷ I64 session ∷ I64 (pos 0) ∷ []) ++ payload
ingress_spelling_of (ingress.Connect corr stream channel) = message 3 (I64 corr ∷ I32 stream ∷ I32 (pos 0) ∷ []) ++ counted channel ++ counted []
ingress_spelling_of (ingress.Close term session) = session_spelling 4 term session
ingress_spelling_of (ingress.KeepAlive term session) = session_spelling 5 term session

-- the length of a channel fits its four bytes
abbrev pub HasIngressSpelling : Ingress → Type 0
HasIngressSpelling (ingress.Connect corr stream channel) = length channel < 2 ^ 32
HasIngressSpelling (ingress.Message term session payload) = Unit {0}
HasIngressSpelling (ingress.Close term session) = Unit {0}
HasIngressSpelling (ingress.KeepAlive term session) = Unit {0}

-- each number fits its type, as it does in every value of the program
abbrev pub IngressFits : Ingress → Type 0
IngressFits (ingress.Connect corr stream channel) = FitsSigned w64 corr × FitsSigned w32 stream
IngressFits (ingress.Message term session payload) = FitsSigned w64 term × FitsSigned w64 session
IngressFits (ingress.Close term session) = FitsSigned w64 term × FitsSigned w64 session
IngressFits (ingress.KeepAlive term session) = FitsSigned w64 term × FitsSigned w64 session

-- what the cluster sends: a session event's text and a new leader's addresses are empty
unfoldable pub egress_spelling_of : Egress → List ℕ
egress_spelling_of (egress.Message term session stamp payload) = message 1 (I64 term ∷ I64 session ∷ I64 stamp ∷ []) ++ payload
egress_spelling_of (egress.SessionEvent session corr term leader code) = message 2 (I64 session ∷ I64 corr ∷ I64 term ∷ I32 leader ∷ I32 (pos code) ∷ []) ++ counted []
egress_spelling_of (egress.NewLeader term session leader) = message 6 (I64 term ∷ I64 session ∷ I32 leader ∷ []) ++ counted []

-- the code is one of the five
abbrev pub HasEgressSpelling : Egress → Type 0
HasEgressSpelling (egress.SessionEvent session corr term leader code) = code ≤ 4
HasEgressSpelling (egress.Message term session stamp payload) = Unit {0}
HasEgressSpelling (egress.NewLeader term session leader) = Unit {0}

-- each number fits its type, as it does in every value of the program
abbrev pub EgressFits : Egress → Type 0
EgressFits (egress.SessionEvent session corr term leader code) = FitsSigned w64 session × FitsSigned w64 corr × FitsSigned w64 term × FitsSigned w32 leader
EgressFits (egress.Message term session stamp payload) = FitsSigned w64 term × FitsSigned w64 session × FitsSigned w64 stamp
EgressFits (egress.NewLeader term session leader) = FitsSigned w64 term × FitsSigned w64 session × FitsSigned w32 leader
