-- What holds of the data that backups send to recovery masters.
use Rattle.std.specs.Prelude.{◌≡◌, ℕ, ◌≤◌, List, length, filter, take}
use Rattle.rc_types.specs.declared.ids.ServerId.{ServerId}
use Rattle.rc_types.specs.declared.ids.Addr.{Addr}
use Rattle.rc_types.specs.declared.ids.Addr.TheVariants.{Server}
use Rattle.rc_types.specs.declared.entries.Entry.{Entry}
use Rattle.rc_types.specs.declared.rows.Part.{Part}
use Rattle.rc_types.specs.declared.messages.Message.{Message}
use Rattle.rc_types.specs.declared.messages.Body.{Body}
use Rattle.rc_types.specs.declared.messages.Body.TheVariants.{Fetch, Data}
use Rattle.rc_model.specs.Messages.{between}
use Rattle.rc_model.specs.Backup.{is_in_part}
use Rattle.rc_model.specs.Master.{Master}
use Rattle.rc_model.specs.Headline.{In}
use Rattle.rc_step_laws.specs.Words.{log_in}

-- what y has sent to x of a master's segment: asked for, and cut from that master's log below the length that was asked
pub record IsCut (sent : List Message) (masters : ServerId → Master) (y x : ServerId) (attempt seg term : ℕ)
    (entries : List Entry) : Type 0 where
  pub master : ServerId
  pub len : ℕ
  pub part : Part
  pub asked : In (between x y (Fetch attempt master seg len part)) sent
  pub term_is : part.term ≡ term
  pub within : len ≤ length (log_in (masters master).log seg)
  pub entries_are : entries ≡ filter (is_in_part part) (take len (log_in (masters master).log seg))

-- a Data goes from a server to a server
abbrev pub data_between : List Message → (ServerId → Master) → Addr → Addr → ℕ → ℕ → ℕ → List Entry → Type 0
data_between sent masters (Server y) (Server x) attempt seg term entries =
    IsCut sent masters y x attempt seg term entries
data_between sent masters _ _ attempt seg term entries = ⊥

abbrev pub data_fine : List Message → (ServerId → Master) → Addr → Addr → Body → Type 0
data_fine sent masters from to (Data attempt seg term entries) =
    data_between sent masters from to attempt seg term entries
data_fine sent masters from to _ = Unit {0}

-- each Data that was sent is a cut
abbrev pub DataAreCuts : List Message → (ServerId → Master) → Type 0
DataAreCuts sent masters = (message : Message) → In message sent →
    data_fine sent masters message.from message.to message.body
