-- 01's starred cases, of the drawing and of the machine, in one table; then worked cases, one of each kind.
pub mod Drawing
pub mod Machine
pub mod Table
pub mod WorkedDrawing
pub mod WorkedMachine
pub mod WorkedPlanes
pub mod WorkedPanels
