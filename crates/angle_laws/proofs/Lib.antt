-- The laws, from the ground up: rounding (About), the series (Horner, Parts, Nested, Fixed, Poly, Polys), the reduction (Below, Input, Reduce, Small, Cases, Placed, Rest, Single),
-- the arctangent (Octant, Out, Place, Line, Certify, Arcs, Best, Zero), and the sine and the cosine (Chosen, Near).
pub mod About
pub mod Horner
pub mod Parts
pub mod Nested
pub mod Poly
pub mod Polys
pub mod Single
pub mod Rest
pub mod Fixed
pub mod Below
pub mod Input
pub mod Reduce
pub mod Small
pub mod Cases
pub mod Placed
pub mod Octant
pub mod Out
pub mod Place
pub mod Line
pub mod Certify
pub mod Arcs
pub mod Best
pub mod Zero
pub mod Chosen
pub mod Near
