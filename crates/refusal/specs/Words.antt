-- What is printed of a reason and of a refusal.
use Rattle.std.specs.Prelude.{ℕ, List, ◌++◌, codes, decimal}
use Rattle.refusal.specs.declared.reason.Reason.{Reason}
use Rattle.refusal.specs.declared.reason.Reason.TheVariants.{NoSuchSite, NoSuchBlock, WrongLength, BadSizes, BadVotes, BadGrid, UnknownKind, ImageForm, ImageHeader, ImageRecord, SiteFailed, SiteComatose, NoQuorum, LastVersion, SiteOn}
use Rattle.refusal.specs.declared.refusal.Refusal.{Refusal}
use Rattle.refusal.specs.Reasons.{fixed, layer_number}

-- a reason in words
abbrev pub words : Reason → List ℕ
words NoSuchSite = codes "no such site"
words NoSuchBlock = codes "no such block"
words WrongLength = codes "wrong length"
words BadSizes = codes "sizes out of their limits"
words BadVotes = codes "votes that make no rule"
words BadGrid = codes "rows and columns that make no grid"
words UnknownKind = codes "unknown kind of request"
words ImageForm = codes "unknown form of an image"
words ImageHeader = codes "wrong field in an image"
words ImageRecord = codes "wrong entry in an image"
words SiteFailed = codes "the site has failed"
words SiteComatose = codes "the site is comatose"
words NoQuorum = codes "no quorum"
words LastVersion = codes "the last version is reached"
words SiteOn = codes "the site is on"

-- a refusal in words, with its numbers
abbrev pub refusal_text : Refusal → List ℕ
refusal_text e =
    words e.reason ++ codes " (number " ++ decimal (fixed e.reason).number ++ codes ", layer " ++ decimal (layer_number e.layer)
    ++ codes ", place " ++ decimal e.place ++ codes ")"
