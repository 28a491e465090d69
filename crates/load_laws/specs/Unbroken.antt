-- What a library that is loaded leaves.
-- Assumes nothing.
use Rattle.shared_objects.specs.declared.Load.TheVariants.{Loaded}
use Rattle.std.specs.Prelude.{◌≡◌, false, Ok}
use Rattle.shared_objects.specs.Load.{All, Input, leave_links, load_of}
use Rattle.load_laws.specs.Stops.{want, ending}

module _ (o : Input) (a : All) where
  -- what a library that is loaded leaves
  pub record Loads : Type 0 where
    pub all : load_of o a ≡ leave_links (want o a).marks (ending o a) (record { link = (ending o a).stage.link; answer = (Ok Loaded) })
    pub whole : (ending o a).stage.link.broken ≡ false
