-- A refusal of a call: its place is the one of the call's numbers that the reason tells of.
use Rattle.std.specs.Prelude.{ℕ, Some, None, Ok, Err, Option, Result}
use Rattle.refusal.specs.declared.layer.Layer.{Layer}
use Rattle.refusal.specs.declared.reason.PlaceKind.{PlaceKind}
use Rattle.refusal.specs.declared.reason.PlaceKind.TheVariants.{Nothing, Site, Block, Length, Offset, Request}
use Rattle.refusal.specs.declared.reason.Reason.{Reason}
use Rattle.refusal.specs.declared.refusal.Refusal.{Refusal}
use Rattle.refusal.specs.declared.rejected.Rejected.{Rejected}
use Rattle.refusal.specs.Reasons.{fixed}

-- the numbers that a call is about; one that it has not is 0
pub record Subject : Type 0 where
  pub site : ℕ
  pub block : ℕ
  pub length : ℕ
  pub offset : ℕ
  pub request : ℕ

abbrev pub place_in : Subject → PlaceKind → ℕ
place_in s Nothing = 0
place_in s Site = s.site
place_in s Block = s.block
place_in s Length = s.length
place_in s Offset = s.offset
place_in s Request = s.request

-- refused for a reason by a layer, after so many messages
abbrev pub refused : Reason → Layer → Subject → ℕ → Refusal
refused reason layer s messages = record
    { reason = reason; layer = layer; place = place_in s (fixed reason).place; messages = messages }

-- the refusal that came back with what was handed over, if any did
abbrev pub rejection : {S T : Type 0} → Result S (Rejected T) → Option Refusal
rejection (Ok s) = None
rejection (Err e) = Some e.refusal
