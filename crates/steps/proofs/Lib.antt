mod CursorPaths
mod ScratchPaths
