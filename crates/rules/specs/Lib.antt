-- Document 01 as definitions, in the document's order. `call` in Call.antt is the top, and everything else is a part of it; of document 02,
-- Compare is Req 01, File is Req 02, Doubles and Survey are Req 03, Room is Req 06, and Req 05 is in Geometry, Choose and Split. Owners is Req 07,
-- which is in Layout, Sound, Search, Call and File as well.
pub mod Lists
pub mod Numbers
pub mod Answers
pub mod Owners
pub mod Geometry
pub mod Compare
pub mod Pool
pub mod Layout
pub mod Sound
pub mod Search
pub mod Choose
pub mod Split
pub mod Insert
pub mod Lawful
pub mod Delete
pub mod Request
pub mod Call
pub mod Frames
pub mod File
pub mod Room
pub mod Doubles
pub mod Survey
pub mod Computed
pub mod Histories
