-- The worked examples of documents 01 and 02, proved of the definitions by computing with them. They stand here and not in specs/, so that a wrong
-- version of a definition can be read, and is refused by what it makes of them. Derived has what the derives of src/ compute.
pub mod Histories
pub mod Examples
pub mod ModeExamples
pub mod RoadExamples
pub mod FileExamples
pub mod RoomExamples
pub mod SurveyExamples
pub mod OwnerExamples
pub mod Derived
