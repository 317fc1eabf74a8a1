-- The text so far is that of the entries so far, and the reader is at the next.
use Rattle.std.proofs.Common.{◌≡◌, take}
use Rattle.probe_log.specs.Reading.{IsAt}
use Rattle.report_text.specs.Listing.{listing_of}
use Rattle.report_text.proofs.log_listing.listing.Given as goal

abbrev pub invariant-loop : goal.invariant-loop
invariant-loop l = record { text : l.text.items ≡ listing_of (take l.counter l.log.entries); at : IsAt l.reader l.log.entries l.counter }
