mod Elements
pub mod FromFiles
pub mod Described
pub mod RowTexts
pub mod KeptRows
pub mod Asks
pub mod Logins
pub mod Results
pub mod Told
pub mod Feeds
pub mod Reloaded
pub mod Renumbered
pub mod Reports
pub mod Pieces
pub mod PlainLines
pub mod PlainAnswers
pub mod Places
pub mod Orderly
pub mod Searching
mod Remembered
pub mod Entries
pub mod Acting
pub mod Quiet
pub mod QuietQueries
pub mod Closing
pub mod Deciding
pub mod Saying
pub mod ShortNames
pub mod Arrives
pub mod Heard
pub mod Settled
pub mod OnlyNamed
pub mod NothingWaits
pub mod Seats
pub mod Limited
mod FirstLines
pub mod FatesMet
pub mod Numbered
