-- The lemmas of this crate.
pub mod GainsLaws
pub mod HeldLaws
pub mod CallLaws
pub mod PastLaws
pub mod GatheredLaws
pub mod SettlingLaws
pub mod ShiftLaws
pub mod ReceiptLaws
pub mod RoomLaws
pub mod StepLaws
pub mod SeenLaws
pub mod TakeLaws
pub mod WakeLaws
pub mod WorkLaws
pub mod SendsFound
pub mod Sends
