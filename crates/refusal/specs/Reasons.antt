-- What is fixed with each reason and with each layer: the one place where their numbers stand.
use Rattle.std.specs.Prelude.{ℕ}
use Rattle.refusal.specs.declared.layer.Layer.{Layer}
use Rattle.refusal.specs.declared.layer.Layer.TheVariants.{Image, Part, Group, Batch}
use Rattle.refusal.specs.declared.reason.PlaceKind.{PlaceKind}
use Rattle.refusal.specs.declared.reason.PlaceKind.TheVariants.{Nothing, Site, Block, Length, Offset, Request}
use Rattle.refusal.specs.declared.reason.Reason.{Reason}
use Rattle.refusal.specs.declared.reason.Reason.TheVariants.{NoSuchSite, NoSuchBlock, WrongLength, BadSizes, BadVotes, BadGrid, UnknownKind, ImageForm, ImageHeader, ImageRecord, SiteFailed, SiteComatose, NoQuorum, LastVersion, SiteOn}

-- the number of a reason, and what the place of a refusal for it tells
pub record Fixed : Type 0 where
  pub number : ℕ
  pub place : PlaceKind

abbrev pub fixed : Reason → Fixed
fixed NoSuchSite = record { number = 1; place = Site }
fixed NoSuchBlock = record { number = 2; place = Block }
fixed WrongLength = record { number = 3; place = Length }
fixed BadSizes = record { number = 4; place = Nothing }
fixed BadVotes = record { number = 5; place = Nothing }
fixed BadGrid = record { number = 6; place = Nothing }
fixed UnknownKind = record { number = 7; place = Request }
fixed ImageForm = record { number = 8; place = Offset }
fixed ImageHeader = record { number = 9; place = Offset }
fixed ImageRecord = record { number = 10; place = Offset }
fixed SiteFailed = record { number = 11; place = Site }
fixed SiteComatose = record { number = 12; place = Site }
fixed NoQuorum = record { number = 13; place = Site }
fixed LastVersion = record { number = 14; place = Site }
fixed SiteOn = record { number = 15; place = Site }

abbrev pub layer_number : Layer → ℕ
layer_number Image = 1
layer_number Part = 2
layer_number Group = 3
layer_number Batch = 4
