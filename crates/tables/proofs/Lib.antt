pub mod Holding
pub mod MemberRows
pub mod SeatKinds
pub mod Segments
