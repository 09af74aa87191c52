use mathlib.Core.Path.{refl}
use Rattle.printing.proofs.PrintedLines.{shown_renamed}
use Rattle.listing.proofs.ListedStates.{too_long, all_is}
use Rattle.listing.proofs.listing.show_listing.Goals as goal

pub returns : goal.returns
returns c = shown_renamed (all_is c.emit_listing-size.ensures c.if-size-gt-STREAM.false refl) c.show.ensures
