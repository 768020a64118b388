pub mod UndoSets
