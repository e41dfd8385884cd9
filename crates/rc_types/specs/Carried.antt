-- The entries that a message carries, and where in its segment they stand: definitions over the
-- bodies, as other crates write them.
use Rattle.std.specs.Prelude.{◌≡◌, ℕ, List, [], ◌∷◌, Bool}
use Rattle.rc_types.specs.declared.entries.Entry.{Entry}
use Rattle.rc_types.specs.declared.messages.Message.{Message}
use Rattle.rc_types.specs.declared.messages.Body.{Body}
use Rattle.rc_types.specs.declared.messages.Body.TheVariants.{Place, Append}

-- the entries that a Place or an Append sends; nothing else sends entries of its sender's log
abbrev pub carried : Body → List Entry
carried (Place seg epoch digest entries closed) = entries
carried (Append seg offset entries) = entries
carried _ = []

-- equal messages carry the same entries
abbrev pub EqualMessagesCarryTheSame : Type 0
EqualMessagesCarryTheSame = (one other : Message) → one ≡ other → carried one.body ≡ carried other.body

-- a Place that differs in one entry is another message
abbrev pub EntriesCount : Type 0
EntriesCount = (seg epoch : ℕ) (digest : List ℕ) (closed : Bool) (one other : Entry) →
    Place seg epoch digest (one ∷ []) closed ≡ Place seg epoch digest (other ∷ []) closed → one ≡ other
