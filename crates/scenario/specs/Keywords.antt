-- The first words of orders.
use Rattle.std.specs.Prelude.{ℕ, List, [], ◌∷◌, find, Option, codes, bytes_eq}
use Rattle.scenario.specs.declared.keyword.Single.{Single}
use Rattle.scenario.specs.declared.keyword.Single.TheVariants.{Members, Rounds, Quiet, Action, Stop, Start, Invalidate, Join}
use Rattle.scenario.specs.declared.keyword.Double.{Double}
use Rattle.scenario.specs.declared.keyword.Double.TheVariants.{Connect, Close, KeepAlive, Cut, Heal, Lose}
use Rattle.scenario.specs.declared.keyword.Keyword.{Keyword}
use Rattle.scenario.specs.declared.keyword.Keyword.TheVariants.{One, Two, Service, Send, SendHex, Raw, Fuse, Replay, Free, Offer, Backup}

-- how those are spelled that one number follows
abbrev pub single_text : Single → List ℕ
single_text Members = codes "members"
single_text Rounds = codes "rounds"
single_text Quiet = codes "quiet"
single_text Action = codes "action"
single_text Stop = codes "stop"
single_text Start = codes "start"
single_text Invalidate = codes "invalidate"
single_text Join = codes "join"

-- how those are spelled that two numbers follow
abbrev pub double_text : Double → List ℕ
double_text Connect = codes "connect"
double_text Close = codes "close"
double_text KeepAlive = codes "keepalive"
double_text Cut = codes "cut"
double_text Heal = codes "heal"
double_text Lose = codes "lose"

-- how each is spelled
abbrev pub keyword_text : Keyword → List ℕ
keyword_text (One k) = single_text k
keyword_text (Two k) = double_text k
keyword_text Service = codes "service"
keyword_text Send = codes "send"
keyword_text SendHex = codes "sendhex"
keyword_text Raw = codes "bytes"
keyword_text Fuse = codes "fuse"
keyword_text Replay = codes "replay"
keyword_text Free = codes "free"
keyword_text Offer = codes "offer"
keyword_text Backup = codes "backup"

-- all of them
abbrev pub keywords : List Keyword
keywords = One Members ∷ Service ∷ One Rounds ∷ One Quiet ∷ Two Connect ∷ Send ∷ SendHex ∷ Two Close ∷ Two KeepAlive ∷ Raw ∷ One Action ∷ One Stop ∷ One Start ∷ One Invalidate ∷ Fuse ∷ Two Cut ∷ Two Heal ∷ Two Lose ∷ Replay ∷ Free ∷ One Join ∷ Offer ∷ Backup ∷ []

-- the one that a word spells
unfoldable pub keyword_of : List ℕ → Option Keyword
keyword_of word = find (λ k. bytes_eq (keyword_text k) word) keywords
