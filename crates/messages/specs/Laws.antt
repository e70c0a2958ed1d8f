-- What holds of all messages.
use Rattle.std.specs.Prelude.{◌≡◌, ℕ, List}
use Rattle.messages.specs.Messages.{Means, Outcome}
use Rattle.messages.specs.Composition.{Composition}
use Rattle.messages.specs.Lawful.{LawfulFields}
use Rattle.messages.specs.Content.{ContentLaw}

-- a message has one outcome, and no other
abbrev pub OneOutcome : Type 0
OneOutcome = (s : List ℕ) → (o : Outcome) × Means s o × ((q : Outcome) → Means s q → q ≡ o)

-- a message has one outcome; octets load as a message, and with a content, exactly if they are one, section by section; and
-- each field of one is lawful
pub record MessageLaws : Type 0 where
  pub one : OneOutcome
  pub composed : Composition
  pub content : ContentLaw
  pub lawful : LawfulFields
