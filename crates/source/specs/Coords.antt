-- src/sofa/coords.rs. Definitions only.
use Rattle.std.specs.Prelude.{List, [], ◌∷◌, from_bits, Float}
use Rattle.std.specs.Float.{binary32}
use Rattle.std.specs.Float.Ieee.{add, mul, div, rem}
use Rattle.points.specs.declared.Point3.{Point3}
use Rattle.root.specs.Root.{root_of}
use Rattle.source.specs.Rust.{Angles, array, powi2, PI}

module _ (platform : Angles) where
  -- fn cartesian_to_spherical
  unfoldable pub cartesian_to_spherical : Point3 → Point3
  cartesian_to_spherical cartesian =
      let x = cartesian.x in
      let y = cartesian.y in
      let z = cartesian.z in
      let r = root_of (add binary32 (add binary32 (mul binary32 x x) (mul binary32 y y)) (mul binary32 z z)) in
      let theta = platform.atan2 z (root_of (add binary32 (mul binary32 x x) (mul binary32 y y))) in
      let phi = platform.atan2 y x in
      array (rem binary32 (add binary32 (mul binary32 phi (div binary32 (from_bits binary32 0x43340000) PI)) (from_bits binary32 0x43b40000)) (from_bits binary32 0x43b40000))
      (mul binary32 theta (div binary32 (from_bits binary32 0x43340000) PI)) r

  -- fn spherical_to_cartesian
  unfoldable pub spherical_to_cartesian : Point3 → Point3
  spherical_to_cartesian spherical =
      let azimuth = spherical.x in
      let elevation = spherical.y in
      let radius = spherical.z in
      let phi = mul binary32 azimuth (div binary32 PI (from_bits binary32 0x43340000)) in
      let theta = mul binary32 elevation (div binary32 PI (from_bits binary32 0x43340000)) in
      let horizontal_dist = mul binary32 (platform.cos theta) radius in
      array (mul binary32 (platform.cos phi) horizontal_dist) (mul binary32 (platform.sin phi) horizontal_dist) (mul binary32 (platform.sin theta) radius)

  -- fn convert_array_to_spherical
  unfoldable pub convert_array_to_spherical : List Float → List Float
  convert_array_to_spherical [] = []
  convert_array_to_spherical (a ∷ []) = a ∷ []
  convert_array_to_spherical (a ∷ b ∷ []) = a ∷ b ∷ []
  convert_array_to_spherical (a ∷ b ∷ c ∷ rest) = let sph = cartesian_to_spherical (array a b c) in sph.x ∷ sph.y ∷ sph.z ∷ convert_array_to_spherical rest

  -- fn convert_array_to_cartesian
  unfoldable pub convert_array_to_cartesian : List Float → List Float
  convert_array_to_cartesian [] = []
  convert_array_to_cartesian (a ∷ []) = a ∷ []
  convert_array_to_cartesian (a ∷ b ∷ []) = a ∷ b ∷ []
  convert_array_to_cartesian (a ∷ b ∷ c ∷ rest) = let cart = spherical_to_cartesian (array a b c) in cart.x ∷ cart.y ∷ cart.z ∷ convert_array_to_cartesian rest

-- fn radius
unfoldable pub radius : Point3 → Float
radius cartesian = root_of (add binary32 (add binary32 (powi2 cartesian.x) (powi2 cartesian.y)) (powi2 cartesian.z))
