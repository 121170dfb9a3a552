-- src/sofa/reader.rs: what opening a set does to its positions. Definitions only.
use Rattle.std.specs.Prelude.{List, Float}
use Rattle.source.specs.Rust.{Option, None, Some, Angles}
use Rattle.source.specs.Coords.{convert_array_to_cartesian}
use Rattle.source.specs.Lookup.{Hrtf}

-- an array's attribute "Type": the words that the source tells apart
pub data CoordType : Type 0 where
  cartesian : CoordType
  spherical : CoordType
  other : CoordType

module _ (platform : Angles) where
  -- fn convert_array_to_cartesian_if_spherical: the array's values afterwards
  unfoldable pub convert_array_to_cartesian_if_spherical : Option CoordType → List Float → List Float
  convert_array_to_cartesian_if_spherical None values = values
  convert_array_to_cartesian_if_spherical (Some cartesian) values = values
  convert_array_to_cartesian_if_spherical (Some spherical) values = convert_array_to_cartesian platform values
  convert_array_to_cartesian_if_spherical (Some other) values = values

  -- Hrtf::convert_to_cartesian: the source positions. Nothing that is carried over reads the other five arrays.
  unfoldable pub convert_to_cartesian : Option CoordType → Hrtf → Hrtf
  convert_to_cartesian coord_type hrtf = record {
    m = hrtf.m;
    c = hrtf.c;
    r = hrtf.r;
    n = hrtf.n;
    source_position = convert_array_to_cartesian_if_spherical coord_type hrtf.source_position;
    data_ir = hrtf.data_ir;
    data_delay = hrtf.data_delay;
    sample_rate = hrtf.sample_rate;
  }
