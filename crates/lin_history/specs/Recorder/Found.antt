-- An object that was found by its name (this project's own).
use Rattle.std.specs.Prelude.{◌≡◌, true, Some}
use Rattle.lin_history.specs.declared.recorder.found.FoundObject.{FoundObject}
use Rattle.lin_history.specs.Recorder.Names.{is_name}
use Rattle.lin_history.specs.Recorder.Recording.{Recording, index_named}

-- Its name is one, and by that name the object of this index is found in the recording.
pub record IsFound (r : Recording) (found : FoundObject) : Type 0 where
  pub valid : is_name found.name.now ≡ true
  pub named : index_named r found.name.now ≡ Some found.index
